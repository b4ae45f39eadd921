-- `memory::integers::rank`: a sum that wraps is the remainder, and with 0 the value itself.
-- Assumes nothing.
use Rattle.std.proofs.Common.{arith}
use Rattle.memory.specs.Integers.{rank}
use Rattle.memory.proofs.integers.rank.Goals as goal
use Rattle.memory.proofs.integers.rank.Goals.{then-signed, else-signed}

pub returns : goal.returns
unfolding rank
returns c =
    elim c.if-signed.branch [
      | then-signed w ↦ rw w.if-signed.true (omega (arith, w.result-is))
      | else-signed w ↦ rw w.if-signed.false (omega (arith, w.result-is, c.ranges.v.fits))
    ]
