-- `table::search::first_wrong_object`: the objects passed are right, and the depth is their sum (`Passed`).
-- Assumes nothing.
use Rattle.std.proofs.Common.{rules, refl}
use Rattle.table.proofs.Walk.{walk_starts, walk_goes_on, walk_stays, none_named, ends_alone, depth_fits, ends_past_depth}
use Rattle.table.proofs.search.first_wrong_object.Goals as goal
use Rattle.table.proofs.search.first_wrong_object.Goals.{then-d-ne0+else-depth-gt-MOST_QUEUED, else-d-ne0}

pub loop-i-init : goal.loop-i-init
loop-i-init c = walk_starts _ _

pub returns-then-not-object_right : goal.returns-then-not-object_right
returns-then-not-object_right c = search (rules, ends_alone)

pub overflow_add-depth : goal.overflow_add-depth
overflow_add-depth c = search (rules, depth_fits)

pub returns-then-depth-gt-MOST_QUEUED : goal.returns-then-depth-gt-MOST_QUEUED
returns-then-depth-gt-MOST_QUEUED c =
    ends_past_depth _ _ c.loop-i.invariant (search rules) c.object_right.ensures c.read8-d.ensures.0 refl c.if-depth-gt-MOST_QUEUED.true

pub returns : goal.returns
returns c = search (rules, none_named)

pub loop-i-preserved : goal.loop-i-preserved
loop-i-preserved c =
    elim c.if-d-ne0.branch [
      | then-d-ne0+else-depth-gt-MOST_QUEUED w ↦ rw w.depth-is (search (rules, walk_goes_on))
      | else-d-ne0 w ↦ rw w.depth-is (search (rules, walk_stays))
    ]
