-- `timing::periods::set_periods`: the invariant is the turns of the I-PDUs passed; those without a period change nothing.
-- Assumes nothing.
use Rattle.std.proofs.Common.{◌≡◌, ◌-◌, ◌≤◌, length}
use Rattle.memory.specs.Search.{fold}
use Rattle.timing.specs.Periods.{period_turn}
use Rattle.timing.proofs.periods.set_periods.Given as goal

abbrev pub invariant-loop-k : goal.invariant-loop-k
invariant-loop-k l = (l.k ≤ l.n) × (l.m ≡ fold l.k (period_turn l.on l.t) l.initial.m) × (length l.m ≡ length l.initial.m)

abbrev pub decreases-loop-k : goal.decreases-loop-k
decreases-loop-k l = l.n - l.k
