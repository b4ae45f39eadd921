-- `delivery::due::mark_due`: the invariant is the turns of the objects passed.
-- Assumes nothing.
use Rattle.std.proofs.Common.{◌≡◌, length}
use Rattle.memory.specs.Search.{fold}
use Rattle.delivery.specs.Due.{due_turn}
use Rattle.delivery.proofs.due.mark_due.Given as goal

abbrev pub invariant-loop-i : goal.invariant-loop-i
invariant-loop-i l = (l.m ≡ fold l.i (due_turn l.t l.c l.word) l.initial.m) × (length l.m ≡ length l.initial.m)
