-- A frame is copied to the front of a slot, is packed or unpacked there, and is copied back: what `pack` and `unpack` rely on.
-- Assumes nothing.
use Rattle.std.proofs.Common.{◌≡◌, ℕ, ◌<◌, ◌≤◌, Bool, List, ◌∷◌, ◌++◌, length, take, drop, ap, ◌∙◌, arith, length-append, length-drop, length-take-le, true, Ok, []}
use Rattle.memory.specs.Bytes.{part, replaced}
use Rattle.memory.proofs.Parts.{part_whole, replaced_whole, replaced_length}
use Rattle.bits.specs.declared.Order.{Order}
use Rattle.bits.specs.Bits.{packed, unpacked, extended}
use Rattle.bits.specs.Frames.{is_place, frame_after, unpacking}
use Rattle.bits.specs.Slots.{position, InSlot}
use Rattle.bits.proofs.Places.{position_twice}
use Rattle.bits.proofs.RoundTrip.{Allowed, passed, packed_length, packed_front, unpacked_front}

-- a slot before a frame is copied into it
abbrev pub cleared : List ℕ
cleared = 0 ∷ 0 ∷ 0 ∷ 0 ∷ 0 ∷ 0 ∷ 0 ∷ 0 ∷ []

pub front_long : (n : ℕ) → n ≤ 8 → length (take n cleared) ≡ n
front_long n short = length-take-le n cleared short

pub slot_long : (s : List ℕ) (n : ℕ) → n ≤ 8 → length s ≡ length (take n cleared) → length (s ++ drop n cleared) ≡ 8
slot_long s n short long = simp (length-append, length-drop) (omega (arith, short, long, front_long n short))

-- a slot that a message is packed into keeps its length
pub slot_kept : (o : Order) (start size v : ℕ) (s : List ℕ) {q : List ℕ} → length s ≡ 8
    → q ≡ replaced 0 (packed o start size v (part 0 8 s)) s → length q ≡ 8
slot_kept o start size v s eight stored =
    let own : length (packed o start size v (part 0 8 s)) ≡ length s =
    packed_length o start size v (part 0 8 s) ∙ ap length (part_whole 8 s eight) in
    rw (stored, replaced_length 0 (packed o start size v (part 0 8 s)) s (omega (arith, own))) eight

module _ (o : Order) (start size L : ℕ) {b : Bool} (test : b ≡ is_place o start size L) (taken : b ≡ true) where
  ok : Allowed o start size L
  ok = passed o start size L b test taken

  pub starts_in_slot : start < 64
  starts_in_slot = ok.begins

  pub frame_short : L ≤ 8
  frame_short = ok.fits.short

  pub lies_in_slot : {at : ℕ} → at ≡ position o start → InSlot at size
  lies_in_slot e = rw e ok.slot

module _ (o : Order) (start size : ℕ) (f z : List ℕ) {b : Bool} {at : ℕ} {s : List ℕ} (test : b ≡ is_place o start size (length f))
    (taken : b ≡ true) (along : at ≡ position o start) (front : s ≡ f ++ z) (eight : length s ≡ 8) where
  back : position o at ≡ start
  back = rw along (position_twice o start (starts_in_slot o start size (length f) test taken))

  pub unpacks : (signed : Bool) {v : ℕ} → v ≡ extended signed size (unpacked o (position o at) size (part 0 8 s))
      → Ok v ≡ unpacking o signed start size f
  unpacks signed e =
      let allowed = ok o start size (length f) test taken in
      rw (allowed.holds, e, back, part_whole 8 s eight, front)
      (ap (λ (n : ℕ). Ok (extended signed size n)) (unpacked_front o start size f z allowed.fits))

  pub packs : (v : ℕ) {q after : List ℕ} → q ≡ replaced 0 (packed o (position o at) size v (part 0 8 s)) s
      → after ≡ take (length f) q → after ≡ frame_after o start size v f
  packs v {q} stored returned =
      let whole : q ≡ packed o start size v s =
      rw (stored, back, part_whole 8 s eight) (replaced_whole (packed o start size v s) s (packed_length o start size v s)) in
      rw ((ok o start size (length f) test taken).holds, returned, whole, front) (packed_front o start size v f z)

-- what `pack` and `unpack` have at hand of the copy of a frame in a slot
pub ruleset frame_copies = (starts_in_slot, frame_short, lies_in_slot, front_long, slot_long, slot_kept)
