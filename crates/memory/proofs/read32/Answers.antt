-- `memory::read32`: a number is its first byte and 256 times the rest (`number_four`).
-- Assumes nothing.
use Rattle.std.proofs.Common.{arith}
use Rattle.memory.proofs.Parts.{number_four}
use Rattle.memory.proofs.read32.Goals as goal

pub returns : goal.returns
returns c = rw number_four (omega (arith, c.from_le_bytes.ensures))
