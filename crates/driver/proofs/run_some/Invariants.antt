-- `driver::run_some`: between two lines all stands where the board says (`SoFar`); a line's bytes and its line feed keep that.
-- Assumes nothing.
use Rattle.std.proofs.Common.{◌≡◌, ◌-◌, length}
use Rattle.driver.proofs.PartRuns.{SoFar}
use Rattle.driver.proofs.run_some.Given as goal

abbrev pub invariant-loop-at : goal.invariant-loop-at
invariant-loop-at l =
    SoFar l.t l.part l.initial.run.progress l.initial.m l.initial.area l.initial.out l.at l.run l.m l.area l.out
    × (length l.m ≡ length l.initial.m)
    × (length l.area ≡ length l.initial.area)
    × (length l.out ≡ length l.initial.out)

abbrev pub decreases-loop-at : goal.decreases-loop-at
decreases-loop-at l = l.n - l.at
