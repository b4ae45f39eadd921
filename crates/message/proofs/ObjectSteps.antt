-- What the steps of one message object give: its bits stay placed, and a choice by a test that the code made.
-- Assumes nothing.
use Rattle.std.proofs.Common.{Bool, ◌&&◌, List, ◌≡◌, sym, ap, ◌∙◌, ℕ, arith, ne_eqb, ltb, eqb, length}
use Rattle.memory.specs.Bytes.{bytes_of, replaced}
use Rattle.memory.specs.Search.{pick}
use Rattle.filter.specs.declared.Filter.{Filter}
use Rattle.filter.specs.Filters.{passes, CountFits}
use Rattle.config.specs.declared.Direction.{Direction}
use Rattle.config.specs.declared.Object.{Object}
use Rattle.state.specs.declared.ObjectState.{ObjectState}
use Rattle.state.specs.Layout.{object_state, with_object_state}
use Rattle.queue.specs.Queues.{place_at}
use Rattle.message.specs.Objects.{Placed, delivered, deliver, initialise_as, initialise}

-- memory of the same length keeps an object placed
pub placed_after : (o : Object) (m n : List ℕ) → Placed o m → length n ≡ length m → Placed o n
placed_after o m n placed same = record { long = omega (arith, placed.long, same); slot = placed.slot; ipdu = placed.ipdu }

-- the count of the row that was read is in its range
pub count_read : (f : Filter) (i : ℕ) (m : List ℕ) (s : ObjectState) → s ≡ object_state m i → CountFits f (object_state m i).occurrence
    → CountFits f s.occurrence
count_read f i m s same fits = rw same fits

-- ---- a choice by a test that the code made

pub picked_other : {A : Type 0} (a b : ℕ) (x y z : A) → (a ≡ b → ⊥) → z ≡ y → z ≡ pick (eqb a b) x y
picked_other a b x y z other same = rw (ne_eqb _ _ other) same

pub initialised : (d : Direction) (o : Object) (i v : ℕ) (m n : List ℕ) → o.direction ≡ d → n ≡ initialise_as d o i v m → n ≡ initialise o i v m
unfolding initialise
initialised d o i v m n e does = does ∙ ap (λ (d : Direction). initialise_as d o i v m) (sym e)

-- ---- a delivery, by what its steps gave: the row read, whether the value passes, its place in the queue, memory with it there, the row after

pub delivers : (o : Object) (i v : ℕ) (m : List ℕ) {s next : ObjectState} {passed : Bool} {at : ℕ} {queued after : List ℕ}
    → s ≡ object_state m i → passed ≡ passes o.signed o.filter v s.old s.occurrence → at ≡ place_at o.depth s s.count
    → queued ≡ pick (passed && ltb s.count o.depth) (replaced at (bytes_of 4 v) m) m → next ≡ delivered passed o v s
    → after ≡ with_object_state queued i next → after ≡ deliver o i v m
unfolding deliver
delivers o i v m row judged place entered row_after stored = rw (stored, row_after, entered, place, judged, row)
