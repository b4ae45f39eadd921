-- `memory::read8`: a number of one byte is the byte.
-- Assumes nothing.
use Rattle.std.proofs.Common.{arith}
use Rattle.memory.proofs.Parts.{number_one}
use Rattle.memory.proofs.read8.Goals as goal

pub returns : goal.returns
returns c = rw number_one (omega (arith, c.from.ensures, c.type_inv.m c.args.at))
