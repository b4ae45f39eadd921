-- `ranges::ipdus_in_range`: no row passed is out of range.
-- Assumes nothing.
use Rattle.std.proofs.Common.{false, ◌≡◌}
use Rattle.memory.specs.Search.{any_below}
use Rattle.state.specs.Ranges.{ipdu_out}
use Rattle.ranges.proofs.ipdus_in_range.Given as goal

abbrev pub invariant-loop-k : goal.invariant-loop-k
invariant-loop-k l = any_below l.k (ipdu_out l.t l.m) ≡ false
