-- `startup::start_objects`: the invariant is the turns of the objects passed, and the sum of their depths.
-- Assumes nothing.
use Rattle.std.proofs.Common.{◌≡◌, length}
use Rattle.memory.specs.Search.{fold}
use Rattle.table.specs.Check.{depths}
use Rattle.startup.specs.Start.{start_object}
use Rattle.startup.proofs.start_objects.Given as goal

abbrev pub invariant-loop-i : goal.invariant-loop-i
invariant-loop-i l = (l.m ≡ fold l.i (start_object l.t l.c) l.initial.m) × (length l.m ≡ length l.initial.m) × (l.first ≡ depths l.t l.c l.i)
