-- Internal delivery, a received I-PDU and the marks of an I-PDU keep every stored number in its range, turn by turn.
-- Assumes nothing.
use Rattle.std.proofs.Common.{List, ℕ, ◌^◌, ◌≤◌, ◌<◌, arith, eqb}
use Rattle.memory.specs.Search.{fold}
use Rattle.memory.proofs.Search.{picked, fold_keeps}
use Rattle.table.specs.declared.Counts.{Counts}
use Rattle.table.specs.Records.{object_record}
use Rattle.table.specs.Check.{depths}
use Rattle.state.specs.Layout.{object_state, with_object_state}
use Rattle.state.specs.Ranges.{Ready}
use Rattle.state.proofs.Ready.{ready_kept, ready_object}
use Rattle.message.specs.Objects.{object, marked, deliver, unpack}
use Rattle.message.proofs.ObjectsInRange.{kept_marked, ready_deliver, unpack_lt}
use Rattle.delivery.specs.Delivery.{inside_turn, frame_turn, mark_turn}

module _ (t : List ℕ) (c : Counts) where
  pub ready_inside_turn : (sender v : ℕ) → v < 2 ^ 32 → (i : ℕ) → i < c.objects → (m : List ℕ) → Ready t c m
      → Ready t c (inside_turn t c sender v i m)
  ready_inside_turn sender v low i h m ready =
      picked (Ready t c) (eqb (object_record t c.ipdus i).sender sender) (deliver (object t c i) i v m) m
      (λ e. ready_deliver t c m ready i h v low) (λ e. ready)

  pub ready_inside : (sender v n : ℕ) → v < 2 ^ 32 → n ≤ c.objects → (m : List ℕ) → Ready t c m → Ready t c (fold n (inside_turn t c sender v) m)
  ready_inside sender v n low h =
      fold_keeps (Ready t c) n (inside_turn t c sender v) (λ i b. ready_inside_turn sender v low i (omega (arith, b, h)))

  pub ready_frame : (k n : ℕ) → n ≤ c.objects → (m : List ℕ) → Ready t c m → Ready t c (fold n (frame_turn t c k) m)
  ready_frame k n h = fold_keeps (Ready t c) n (frame_turn t c k) turn
    where
      turn : (i : ℕ) → i < n → (m : List ℕ) → Ready t c m → Ready t c (frame_turn t c k i m)
      turn i b m ready =
          let below : i < c.objects = omega (arith, b, h) in
          picked (Ready t c) (eqb (object_record t c.ipdus i).ipdu k) (deliver (object t c i) i (unpack (object t c i) m) m) m
          (λ e. ready_deliver t c m ready i below (unpack (object t c i) m) (unpack_lt t c m ready i below)) (λ e. ready)

  pub ready_mark : (k mark n : ℕ) → mark ≤ 15 → n ≤ c.objects → (m : List ℕ) → Ready t c m → Ready t c (fold n (mark_turn t c k mark) m)
  ready_mark k mark n low h = fold_keeps (Ready t c) n (mark_turn t c k mark) turn
    where
      turn : (i : ℕ) → i < n → (m : List ℕ) → Ready t c m → Ready t c (mark_turn t c k mark i m)
      turn i b m ready =
          let below : i < c.objects = omega (arith, b, h) in
          picked (Ready t c) (eqb (object_record t c.ipdus i).ipdu k) (with_object_state m i (marked mark (object_state m i))) m
          (λ e.
          ready_object t c m ready i below (marked mark (object_state m i))
          (kept_marked (object_record t c.ipdus i) (depths t c i) mark (object_state m i) low (ready_kept t c m ready i below)))
          (λ e. ready)
