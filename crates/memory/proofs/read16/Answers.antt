-- `memory::read16`: a number is its first byte and 256 times the rest (`number_two`).
-- Assumes nothing.
use Rattle.std.proofs.Common.{arith}
use Rattle.memory.proofs.Parts.{number_two}
use Rattle.memory.proofs.read16.Goals as goal

pub returns : goal.returns
returns c = rw number_two (omega (arith, c.from_le_bytes.ensures))
