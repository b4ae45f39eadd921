-- `delivery::deliver_frame`: the invariant is the turns of the objects passed, which leave memory in range.
-- Assumes nothing.
use Rattle.std.proofs.Common.{◌≡◌, length}
use Rattle.memory.specs.Search.{fold}
use Rattle.delivery.specs.Delivery.{frame_turn}
use Rattle.delivery.proofs.deliver_frame.Given as goal

abbrev pub invariant-loop-i : goal.invariant-loop-i
invariant-loop-i l = (l.m ≡ fold l.i (frame_turn l.t l.c l.ipdu.0) l.initial.m) × (length l.m ≡ length l.initial.m)
