-- `delivery::mark_objects`: the invariant is the turns of the objects passed.
-- Assumes nothing.
use Rattle.std.proofs.Common.{◌≡◌, length}
use Rattle.memory.specs.Search.{fold}
use Rattle.delivery.specs.Delivery.{mark_turn}
use Rattle.delivery.proofs.mark_objects.Given as goal

abbrev pub invariant-loop-i : goal.invariant-loop-i
invariant-loop-i l = (l.m ≡ fold l.i (mark_turn l.t l.c l.ipdu.0 l.mark) l.initial.m) × (length l.m ≡ length l.initial.m)
