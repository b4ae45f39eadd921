-- What `pack_slot` and `unpack_slot` compute on a slot's word is packing and unpacking.
-- Assumes nothing.
use Rattle.std.proofs.Common.{◌≡◌, ℕ, ◌+◌, ◌-◌, ◌<◌, ◌≤◌, List, length, sym, ap, ◌∙◌, ⊎_elim, arith, bit_xor}
use Rattle.memory.specs.Bytes.{Bytes, value, bytes_of, number_at, part, replaced}
use Rattle.memory.proofs.Parts.{part_bytes, part_length}
use Rattle.bits.specs.declared.Order.{Order}
use Rattle.bits.specs.Bits.{bit, frame_bit, frame_of, place, written, packed, unpacked}
use Rattle.bits.specs.Slots.{position, turned, bit_field, with_bit_field, InSlot}
use Rattle.memory.proofs.Tests.{lt_or_le}
use Rattle.bits.proofs.Numbers.{number_ext}
use Rattle.bits.proofs.Frames.{frame_ext, value_bit, bytes_of_frame}
use Rattle.bits.proofs.Places.{position_lt, position_twice, along, place_at, Run}
use Rattle.bits.proofs.Slots.{turned_bit, field_number, with_field_in, with_field_below, with_field_above}
use Rattle.bits.proofs.Xor.{turned_difference}
use Rattle.bits.proofs.RoundTrip.{written_own, written_other}

module _ (o : Order) (start size : ℕ) (f : List ℕ) (bytes : Bytes f) (eight : length f ≡ 8) (here : Run o start size) where
  word : ℕ
  word = turned o (value f)

  word_bit : (p : ℕ) → p < 64 → bit word p ≡ frame_bit f (position o p)
  unfolding word
  word_bit p h = turned_bit o (value f) p h ∙ value_bit f bytes (position o p)

  run_unpacked : bit_field (turned o (value f)) (position o start) size ≡ unpacked o start size f
  unfolding unpacked word
  run_unpacked =
      field_number _ _ _
      ∙ number_ext size _ _
      (λ i h. word_bit (position o start + i) (omega (arith, here.ends)) ∙ ap (frame_bit f) (place_at o start size i here h))

  slot_bit : (v p : ℕ) → p < 64 → bit (with_bit_field word (position o start) size v) (position o p) ≡ written o start v f size p
  slot_bit v p h =
      ⊎_elim
      (λ below. with_field_below word from size v at below ∙ same (λ i k e. omega arith))
      (λ past. ⊎_elim (own (at - from) (omega arith)) (λ end. above (at - from - size) (omega arith)) (lt_or_le (at - from) size))
      (lt_or_le at from)
    where
      from : ℕ
      from = position o start

      at : ℕ
      at = position o p

      same : ((i : ℕ) → i < size → at ≡ from + i → ⊥) → bit word at ≡ written o start v f size p
      same apart =
          word_bit at (position_lt o p h) ∙ ap (frame_bit f) (position_twice o p h)
          ∙ sym (written_other o start v f size p (λ i k e. apart i k (ap (position o) (sym e) ∙ (along o start i here.begins (omega (arith, here.ends))).at)))

      own : (i : ℕ) → at ≡ from + i → i < size → bit (with_bit_field word from size v) at ≡ written o start v f size p
      own i e k =
          let met : place o start i ≡ p = sym (place_at o start size i here k) ∙ ap (position o) (sym e) ∙ position_twice o p h in
          ap (bit (with_bit_field word from size v)) e ∙ with_field_in word from size v i k
          ∙ sym (written_own o start v f size i here k) ∙ ap (written o start v f size) met

      above : (i : ℕ) → at ≡ from + (size + i) → bit (with_bit_field word from size v) at ≡ written o start v f size p
      above i e =
          ap (bit (with_bit_field word from size v)) e ∙ with_field_above word from size v i ∙ ap (bit word) (sym e)
          ∙ same (λ j k w. omega arith)

  run_packed : (v : ℕ) → bytes_of 8 (turned o (with_bit_field (turned o (value f)) (position o start) size v)) ≡ packed o start size v f
  unfolding packed word
  run_packed v =
      bytes_of_frame 8 _
      ∙ frame_ext 8 _ (written o start v f size) (λ p h. turned_bit o _ p h ∙ slot_bit v p h)
      ∙ ap (λ (L : ℕ). frame_of L (written o start v f size)) (sym eight)

-- the run that a caller has checked, from its first position
slot_run : (o : Order) (at size : ℕ) → InSlot at size → Run o (position o at) size
slot_run o at size slot =
    let inner : at < 64 = omega (arith, slot.some, slot.inside) in
    record { begins = position_lt o at inner; ends = omega (arith, position_twice o at inner, slot.inside) }

module _ (o : Order) (at size : ℕ) (f : List ℕ) (bytes : Bytes f) (eight : length f ≡ 8) (slot : InSlot at size) where
  back : position o (position o at) ≡ at
  back = position_twice o at (omega (arith, slot.some, slot.inside))

  pub slot_unpacked : bit_field (turned o (value f)) at size ≡ unpacked o (position o at) size f
  slot_unpacked = rw back at (run_unpacked o (position o at) size f bytes eight (slot_run o at size slot))

  pub slot_packed : (v : ℕ)
      → bytes_of 8 (turned o (with_bit_field (turned o (value f)) at size v)) ≡ packed o (position o at) size v f
  slot_packed v = rw back at (run_packed o (position o at) size f bytes eight (slot_run o at size slot) v)

-- the word of a slot: read, turned, and its field taken or put
module _ (o : Order) (base at size : ℕ) (m : List ℕ) {read walk : ℕ} (bytes : Bytes m) (room : base + 8 ≤ length m) (slot : InSlot at size)
    (word : read ≡ number_at 8 base m) (turn : walk ≡ turned o read) where
  pub field_unpacked : {v : ℕ} → v ≡ bit_field walk at size → v ≡ unpacked o (position o at) size (part base 8 m)
  unfolding number_at
  field_unpacked e =
      rw (e, turn, word) (slot_unpacked o at size (part base 8 m) (part_bytes base 8 m bytes) (part_length base 8 m room) slot)

  pub field_packed : (v : ℕ) {new change : ℕ} {after : List ℕ} → new ≡ with_bit_field walk at size v → change ≡ turned o (bit_xor walk new)
      → after ≡ replaced base (bytes_of 8 (bit_xor read change)) m
      → after ≡ replaced base (packed o (position o at) size v (part base 8 m)) m
  unfolding number_at
  field_packed v new change after =
      rw (after, change, turn, turned_difference, new, turn, word, slot_packed o at size (part base 8 m) (part_bytes base 8 m bytes) (part_length base 8 m room) slot v)
