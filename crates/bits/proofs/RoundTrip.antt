-- The laws of packing that callers cite: the stored reading, every other bit, the round trip; and that a slot's word meets them.
-- Assumes nothing.
use Rattle.std.proofs.Common.{◌≡◌, ℕ, zero, suc, ◌*◌, ◌/◌, ◌%◌, ◌^◌, ◌<◌, ◌≤◌, Bool, true, false, eqb, leb, List, ◌∷◌, ◌++◌, length, take, sym, refl, ap, ◌∙◌, ⊎_elim}
use Rattle.std.proofs.Common.{not-suc-le-zero, arith, length-append, eq-eqb, ne_eqb, leb-true, []}
use lib.ListN.{get_or-append}
use Rattle.memory.specs.Bytes.{Bytes}
use Rattle.bits.specs.declared.Order.{Order}
use Rattle.bits.specs.Bits.{bit, frame_bit, place, room, written, packed, unpacked}
use Rattle.bits.specs.Slots.{position, InSlot}
use Rattle.bits.specs.Frames.{is_place}
use Rattle.memory.proofs.Tests.{eq_or_ne, each_true}
use Rattle.bits.proofs.Numbers.{bit_lt, number_ext, number_lt, number_bits}
use Rattle.bits.proofs.Frames.{frame_bit_lt, frame_length, frame_bit_lem, frame_bytes_lem, frame_ext, frame_take}
use Rattle.bits.proofs.Places.{Along, along, Run, run, room_slot, place_inside}

-- ---- what is written at a place

pub written_lt : (o : Order) (start v : ℕ) (f : List ℕ) (k p : ℕ) → written o start v f k p < 2
unfolding written
written_lt o start v f zero p = frame_bit_lt f p
written_lt o start v f (suc i) p =
    ⊎_elim
    (λ e. let t : eqb (place o start i) p ≡ true = eq-eqb _ _ e in rw t (bit_lt v i))
    (λ e. let t : eqb (place o start i) p ≡ false = ne_eqb _ _ e in rw t (written_lt o start v f i p))
    (eq_or_ne (place o start i) p)

pub written_other : (o : Order) (start v : ℕ) (f : List ℕ) (k p : ℕ) → ((i : ℕ) → i < k → place o start i ≡ p → ⊥)
    → written o start v f k p ≡ frame_bit f p
unfolding written
written_other o start v f zero p none = refl
written_other o start v f (suc i) p none =
    let t : eqb (place o start i) p ≡ false = ne_eqb _ _ (none i (omega arith)) in
    rw t (written_other o start v f i p (λ j h. none j (omega arith)))

-- two message bits never share a place
place_once : (o : Order) (start size i j : ℕ) → Run o start size → i < size → j < size → place o start i ≡ place o start j → i ≡ j
place_once o start size i j r hi hj e =
    let a : Along o start i = along o start i r.begins (omega arith) in
    let b : Along o start j = along o start j r.begins (omega arith) in
    omega (arith, ap (position o) e)

pub written_own : (o : Order) (start v : ℕ) (f : List ℕ) (k i : ℕ) → Run o start k → i < k
    → written o start v f k (place o start i) ≡ bit v i
unfolding written
written_own o start v f zero i r h = absurd (not-suc-le-zero h)
written_own o start v f (suc k) i r h =
    ⊎_elim
    (λ e.
    let t : eqb (place o start k) (place o start i) ≡ true = eq-eqb _ _ (ap (place o start) (sym e)) in
    rw t (ap (bit v) (sym e)))
    (λ ne.
    let apart : place o start k ≡ place o start i → ⊥ =
    λ e. ne (sym (place_once o start (suc k) k i r (omega arith) h e)) in
    let t : eqb (place o start k) (place o start i) ≡ false = ne_eqb _ _ apart in
    let shorter : Run o start k = record { begins = r.begins; ends = omega arith } in
    rw t (written_own o start v f k i shorter (omega (arith, ne))))
    (eq_or_ne i k)

-- ---- packing, for a message with room in a frame of at most 8 bytes

-- the place of a message in a frame, as a caller has checked it
pub record Fits (o : Order) (start size L : ℕ) : Type 0 where
  pub some : 0 < size
  pub short : L ≤ 8
  pub inside : room o start size L ≡ true

pub packed_length : (o : Order) (start size v : ℕ) (f : List ℕ) → length (packed o start size v f) ≡ length f
unfolding packed
packed_length o start size v f = frame_length (length f) _

pub packed_bytes : (o : Order) (start size v : ℕ) (f : List ℕ) → Bytes (packed o start size v f)
unfolding packed
packed_bytes o start size v f = frame_bytes_lem (length f) _ (written_lt o start v f size)

module _ (o : Order) (start size : ℕ) (f : List ℕ) (fits : Fits o start size (length f)) where
  fits_run : Run o start size
  fits_run = run o start size fits.some (room_slot o start size (length f) fits.short fits.inside)

  -- a message bit stands at its place
  pub packed_own : (v i : ℕ) → i < size → frame_bit (packed o start size v f) (place o start i) ≡ bit v i
  unfolding packed
  packed_own v i h =
      frame_bit_lem (length f) _ (written_lt o start v f size) (place o start i)
      (place_inside o start size (length f) i fits.short fits.inside h)
      ∙ written_own o start v f size i fits_run h

  -- packing changes no other bit
  pub packed_other : (v p : ℕ) → p < 8 * length f → ((i : ℕ) → i < size → place o start i ≡ p → ⊥)
      → frame_bit (packed o start size v f) p ≡ frame_bit f p
  unfolding packed
  packed_other v p h none =
      frame_bit_lem (length f) _ (written_lt o start v f size) p h ∙ written_other o start v f size p none

  -- a stored reading, unpacked, gives its low bits
  pub round_trip : (v : ℕ) → unpacked o start size (packed o start size v f) ≡ v % 2 ^ size
  unfolding unpacked
  round_trip v = number_ext size _ (bit v) (packed_own v) ∙ number_bits size v

pub unpacked_lt : (o : Order) (start size : ℕ) (f : List ℕ) → unpacked o start size f < 2 ^ size
unfolding unpacked
unpacked_lt o start size f = number_lt _ (λ i. frame_bit_lt f (place o start i)) size

-- unpacking looks at the message's own places alone
pub unpacked_ext : (o : Order) (start size : ℕ) (f g : List ℕ)
    → ((i : ℕ) → i < size → frame_bit f (place o start i) ≡ frame_bit g (place o start i))
    → unpacked o start size f ≡ unpacked o start size g
unfolding unpacked
unpacked_ext o start size f g e = number_ext size _ _ e

-- ---- a frame at the front of a slot

pub front_bit : (f z : List ℕ) (p : ℕ) → p < 8 * length f → frame_bit (f ++ z) p ≡ frame_bit f p
unfolding frame_bit
front_bit f z p h = ap (λ (b : ℕ). bit b (p % 8)) (get_or-append f z 0 (p / 8) (omega arith))

written_front : (o : Order) (start v : ℕ) (f z : List ℕ) (k p : ℕ) → p < 8 * length f
    → written o start v (f ++ z) k p ≡ written o start v f k p
unfolding written
written_front o start v f z zero p h = front_bit f z p h
written_front o start v f z (suc i) p h = rw (written_front o start v f z i p h)

pub packed_front : (o : Order) (start size v : ℕ) (f z : List ℕ)
    → take (length f) (packed o start size v (f ++ z)) ≡ packed o start size v f
unfolding packed
packed_front o start size v f z =
    frame_take (length f) (length (f ++ z)) _ (omega (arith, length-append f z))
    ∙ frame_ext (length f) _ _ (λ p h. written_front o start v f z size p h)

pub unpacked_front : (o : Order) (start size : ℕ) (f z : List ℕ) → Fits o start size (length f)
    → unpacked o start size (f ++ z) ≡ unpacked o start size f
unpacked_front o start size f z fits =
    unpacked_ext o start size (f ++ z) f
    (λ i h. front_bit f z (place o start i) (place_inside o start size (length f) i fits.short fits.inside h))

-- ---- what a passed test of the place says

pub record Allowed (o : Order) (start size L : ℕ) : Type 0 where
  pub holds : is_place o start size L ≡ true
  pub begins : start < 64
  pub fits : Fits o start size L
  pub slot : InSlot (position o start) size

pub allowed : (o : Order) (start size L : ℕ) → is_place o start size L ≡ true → Allowed o start size L
unfolding is_place
allowed o start size L e =
    let all = each_true (leb 1 L) (leb L 8 ∷ leb 1 size ∷ leb size 32 ∷ room o start size L ∷ []) e in
    let fits : Fits o start size L = search leb-true in
    let along = run o start size fits.some (room_slot o start size L fits.short fits.inside) in
    record {
      holds = e;
      begins = along.begins;
      fits = fits;
      slot = record { some = fits.some; most = search leb-true; inside = along.ends };
    }

pub passed : (o : Order) (start size L : ℕ) (b : Bool) → b ≡ is_place o start size L → b ≡ true → Allowed o start size L
passed o start size L b e t = allowed o start size L (sym e ∙ t)
