-- `delivery::deliver_inside`: the invariant is the turns of the objects passed, which leave memory in range.
-- Assumes nothing.
use Rattle.std.proofs.Common.{◌≡◌, length}
use Rattle.memory.specs.Search.{fold}
use Rattle.delivery.specs.Delivery.{inside_turn}
use Rattle.delivery.proofs.deliver_inside.Given as goal

abbrev pub invariant-loop-i : goal.invariant-loop-i
invariant-loop-i l = (l.m ≡ fold l.i (inside_turn l.t l.c l.sender.0 l.v) l.initial.m) × (length l.m ≡ length l.initial.m)
