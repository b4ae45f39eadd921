-- `table::search::first_wrong_object`: the objects passed are right, and the depth is their sum (`Passed`).
-- Assumes nothing.
use Rattle.table.proofs.Walk.{Passed}
use Rattle.table.proofs.search.first_wrong_object.Given as goal

abbrev pub invariant-loop-i : goal.invariant-loop-i
invariant-loop-i l = Passed l.t l.c l.depth l.i
