-- `memory::read64`: a number is its first byte and 256 times the rest (`number_eight`).
-- Assumes nothing.
use Rattle.std.proofs.Common.{arith}
use Rattle.memory.proofs.Parts.{number_eight}
use Rattle.memory.proofs.read64.Goals as goal

pub returns : goal.returns
returns c = rw number_eight (omega (arith, c.from_le_bytes.ensures))
