-- What packing and a request leave of working memory, and what a hand-over leaves of the area.
-- Assumes nothing.
use Rattle.std.proofs.Common.{false, List, ◌++◌, ◌⊎◌, inl, inr, ⊎_elim, ◌≡◌, refl, sym, ap, ◌∙◌, ℕ, ◌+◌, ◌-◌, ◌*◌, ◌≤◌, ◌<◌, arith, eqb, length, take, replicate, length-append}
use lib.ListN.{length-replicate}
use lib.Seq.{take-append_seam}
use Rattle.memory.specs.Bytes.{Bytes, value, part, number_at, replaced}
use Rattle.memory.proofs.Parts.{part_apart, part_replaced, part_length, part_front, replaced_length, replaced_bytes}
use Rattle.memory.proofs.Search.{picked}
use Rattle.memory.proofs.Tests.{lt_or_le}
use Rattle.bits.specs.Bits.{packed}
use Rattle.bits.proofs.RoundTrip.{packed_bytes}
use Rattle.config.specs.declared.Object.{Object}
use Rattle.table.specs.Records.{most_ipdus, absent}
use Rattle.state.specs.Layout.{area_size, running_at, slots, object_rows, slot_at, object_row, object_state}
use Rattle.state.proofs.RowLaws.{ipdu_part, object_read}
use Rattle.message.specs.Objects.{Placed, start_bit, pack}
use Rattle.message.proofs.ObjectsInRange.{pack_room, packed_slot_length}
use Rattle.transmission.specs.Requests.{copied_to_area}
use Rattle.calls.specs.Answers.{Outcome}
use Rattle.calls.specs.Calls.{wants, request}
use Rattle.calls.proofs.Records.{wants_some}

-- ---- packing

module _ (o : Object) (v : ℕ) (m : List ℕ) (placed : Placed o m) where
  -- packing changes the slot alone
  pub pack_apart : (at w : ℕ) → (eqb o.ipdu.0 absent ≡ false → (at + w ≤ slot_at o.ipdu.0) ⊎ (slot_at o.ipdu.0 + 8 ≤ at))
      → part at w (pack o v m) ≡ part at w m
  unfolding pack
  pack_apart at w apart =
      picked (λ (l : List ℕ). part at w l ≡ part at w m) (eqb o.ipdu.0 absent) _ _ (λ e. refl)
      (λ e.
      let size = packed_slot_length o v m placed e in
      part_apart (slot_at o.ipdu.0) _ m at w (omega (arith, size, pack_room o v m placed e)) (rw size (apart e)))

  -- nothing from the objects' rows on
  pub pack_behind : (at w : ℕ) → object_rows ≤ at → part at w (pack o v m) ≡ part at w m
  pack_behind at w high = pack_apart at w (λ e. inr (omega (arith, placed.ipdu e, high)))

  -- and so no row of an object
  pub pack_row : (j : ℕ) → object_state (pack o v m) j ≡ object_state m j
  pack_row j = object_read (pack o v m) m j (λ p w b. pack_behind (object_row j + p) w (omega arith))

  -- nor anything before the slots
  pub pack_part : (j w : ℕ) → j + w ≤ slots → part j w (pack o v m) ≡ part j w m
  pack_part j w low = pack_apart j w (λ e. inl (omega (arith, low)))

  -- as the byte of a stopped layer
  pub pack_front : running_at (pack o v m) ≡ running_at m
  unfolding running_at number_at
  pack_front = ap value (pack_part 0 1 (omega arith))

  -- packing keeps bytes bytes
  pub pack_bytes : Bytes m → Bytes (pack o v m)
  unfolding pack
  pack_bytes bs = picked Bytes (eqb o.ipdu.0 absent) _ _ (λ e. bs) (λ e. replaced_bytes (slot_at o.ipdu.0) _ m (packed_bytes _ _ _ _ _) bs)

  -- the slot holds what was packed
  pub pack_holds : eqb o.ipdu.0 absent ≡ false
      → part (slot_at o.ipdu.0) 8 (pack o v m) ≡ packed o.order (start_bit o) o.size.0 v (part (slot_at o.ipdu.0) 8 m)
  unfolding pack
  pack_holds e =
      let size = packed_slot_length o v m placed e in
      rw e
      (rw size at
      (part_replaced (slot_at o.ipdu.0) (packed o.order (start_bit o) o.size.0 v (part (slot_at o.ipdu.0) 8 m)) m
      (omega (arith, size, pack_room o v m placed e))))

-- ---- requests

-- with or without a request, nothing changes from the objects' rows on
pub request_behind : (t : List ℕ) (o : Object) (area m : List ℕ) → Placed o m → (at w : ℕ) → object_rows ≤ at
    → part at w (request t o area m).memory ≡ part at w m
unfolding request
request_behind t o area m placed at w high =
    picked (λ (x : Outcome). part at w x.memory ≡ part at w m) (wants t o) _ _
    (λ e.
    let low = placed.ipdu (wants_some t o e) in
    ipdu_part m o.ipdu.0 _ (omega (arith, low, placed.long)) at w (inr (omega (arith, low, high))))
    (λ e. refl)

-- what is handed over: eight bytes of the slot's
module _ (size k : ℕ) (m area : List ℕ) (few : size ≤ 8) (low : k < most_ipdus) (long : area_size ≤ length area) (room : slot_at k + 8 ≤ length m) where
  held : length (part (slot_at k) size m) ≡ size
  held = part_length (slot_at k) size m (omega (arith, few, room))

  eight : length (part (slot_at k) size m ++ replicate (8 - size) 0) ≡ 8
  eight = length-append (part (slot_at k) size m) (replicate (8 - size) 0) ∙ omega (arith, held, few, length-replicate {A = ℕ} (8 - size) 0)

  -- the slot of the area begins with the I-PDU's bytes
  pub handed_front : part (8 * k) size (copied_to_area size k m area) ≡ part (slot_at k) size m
  unfolding copied_to_area
  handed_front =
      let whole : part (8 * k) 8 (replaced (8 * k) (part (slot_at k) size m ++ replicate (8 - size) 0) area) ≡ part (slot_at k) size m ++ replicate (8 - size) 0 =
      rw eight at (part_replaced (8 * k) (part (slot_at k) size m ++ replicate (8 - size) 0) area (omega (arith, eight, low, long))) in
      sym (part_front (8 * k) size 8 (replaced (8 * k) (part (slot_at k) size m ++ replicate (8 - size) 0) area) few)
      ∙ ap (take size) whole
      ∙ rw held at (take-append_seam (part (slot_at k) size m) (replicate (8 - size) 0))

  pub handed_length : length (copied_to_area size k m area) ≡ length area
  unfolding copied_to_area
  handed_length = replaced_length (8 * k) (part (slot_at k) size m ++ replicate (8 - size) 0) area (omega (arith, eight, low, long))

  -- other slots stay
  pub handed_other : (j n : ℕ) → (j ≡ k → ⊥) → n ≤ 8 → part (8 * j) n (copied_to_area size k m area) ≡ part (8 * j) n area
  unfolding copied_to_area
  handed_other j n other most =
      part_apart (8 * k) (part (slot_at k) size m ++ replicate (8 - size) 0) area (8 * j) n (omega (arith, eight, low, long))
      (⊎_elim (λ (b : j < k). inl (omega (arith, b, most))) (λ (b : k ≤ j). inr (omega (arith, b, other, eight))) (lt_or_le j k))

-- what is handed over depends on the slot alone
pub handed_same : (size k : ℕ) (l m area : List ℕ) → size ≤ 8 → part (slot_at k) 8 l ≡ part (slot_at k) 8 m → copied_to_area size k l area ≡ copied_to_area size k m area
unfolding copied_to_area
handed_same size k l m area few e =
    ap (λ (f : List ℕ). replaced (8 * k) (f ++ replicate (8 - size) 0) area)
    (sym (part_front (slot_at k) size 8 l few) ∙ ap (take size) e ∙ part_front (slot_at k) size 8 m few)
