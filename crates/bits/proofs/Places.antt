-- Laws of `place`, `room` and `position`: the place rule in document 01's words, and a message's bits as a run of positions.
-- Assumes nothing.
use Rattle.std.proofs.Common.{◌≡◌, ℕ, zero, suc, ◌+◌, ◌-◌, ◌*◌, ◌/◌, ◌%◌, ◌<◌, ◌≤◌, Bool, true, false, eqb, ltb, leb, sym, refl, ap, ◌∙◌, arith, ltb-true, lt-ltb, eq-eqb, ne_eqb}
use Rattle.std.proofs.Common.{eqb-true, le-leb, leb-true}
use borrow.Author.Tests.{eqb-false}
use Rattle.bits.specs.declared.Order.{Order}
use Rattle.bits.specs.declared.Order.TheVariants.{Little, Big}
use Rattle.bits.specs.Bits.{after, place, room}
use Rattle.bits.specs.Slots.{position}
use Rattle.memory.proofs.Tests.{and_split}

-- Little: message bit i goes to bit n + i.
pub place_little : (n i : ℕ) → place Little n i ≡ n + i
unfolding place
place_little n zero = omega arith
place_little n (suc i) = omega (arith, place_little n i)

-- Big: bit n, n + 1, up to the byte's end ..
pub place_big_in_byte : (n i : ℕ) → n % 8 + i < 8 → place Big n i ≡ n + i
unfolding place
place_big_in_byte n zero h = omega arith
place_big_in_byte n (suc i) h =
    let before : place Big n i ≡ n + i = place_big_in_byte n i (omega arith) in
    let inner : eqb ((n + i) % 8) 7 ≡ false = ne_eqb ((n + i) % 8) 7 (omega arith) in
    rw (before, inner) (omega arith)

-- .. then bit 0 of the byte before
pub place_big_next_byte : (n i m : ℕ) → place Big n i ≡ 8 * suc m + 7 → place Big n (suc i) ≡ 8 * m
unfolding place
place_big_next_byte n i m e =
    let last : eqb ((8 * suc m + 7) % 8) 7 ≡ true = eq-eqb ((8 * suc m + 7) % 8) 7 (omega arith) in
    rw (e, last) (omega arith)

pub position_lt : (o : Order) (p : ℕ) → p < 64 → position o p < 64
unfolding position
position_lt Little p h = h
position_lt Big p h = omega arith

pub position_twice : (o : Order) (p : ℕ) → p < 64 → position o (position o p) ≡ p
unfolding position
position_twice Little p h = refl
position_twice Big p h = omega arith

-- message bit i stands i places along the walk from the start, and no byte further on than the start
pub record Along (o : Order) (start i : ℕ) : Type 0 where
  pub inside : place o start i < 64
  pub at : position o (place o start i) ≡ position o start + i

after_big : (p : ℕ) → p < 64 → position Big p + 1 < 64 → (after Big p < 64) × (position Big (after Big p) ≡ position Big p + 1)
unfolding position
after_big p h fits = go (eqb (p % 8) 7) refl
  where
    go : (b : Bool) → eqb (p % 8) 7 ≡ b → (after Big p < 64) × (position Big (after Big p) ≡ position Big p + 1)
    go true e = let last : p % 8 ≡ 7 = eqb-true _ _ e in rw e (omega arith)
    go false e = let inner : p % 8 ≡ 7 → ⊥ = eqb-false _ _ e in rw e (omega arith)

pub along : (o : Order) (start i : ℕ) → start < 64 → position o start + i < 64 → Along o start i
unfolding place position
along o start zero h fits = record { inside = h; at = omega arith }
along Little start (suc i) h fits =
    let before : Along Little start i = along Little start i h (omega arith) in
    record { inside = omega arith; at = omega arith }
along Big start (suc i) h fits =
    let before : Along Big start i = along Big start i h (omega arith) in
    let next = after_big (place Big start i) before.inside (omega arith) in
    record { inside = next.0; at = omega (arith, next.1) }

-- what room in a slot says of positions
pub record Run (o : Order) (start size : ℕ) : Type 0 where
  pub begins : start < 64
  pub ends : position o start + size ≤ 64

pub run : (o : Order) (start size : ℕ) → 0 < size → room o start size 8 ≡ true → Run o start size
unfolding room position
run Little start size some e = let h : start + size ≤ 64 = leb-true _ _ e in record { begins = omega arith; ends = omega arith }
run Big start size some e =
    let h : start < 64 = ltb-true _ _ (and_split _ (leb size (8 * (start / 8 + 1) - start % 8)) e).0 in
    let k : size ≤ 8 * (start / 8 + 1) - start % 8 = leb-true _ _ (and_split (ltb start 64) _ e).1 in
    record { begins = h; ends = omega arith }

-- the bit that stands i places along the walk from the start
pub place_at : (o : Order) (start size i : ℕ) → Run o start size → i < size → position o (position o start + i) ≡ place o start i
place_at o start size i r h =
    let a : Along o start i = along o start i r.begins (omega (arith, r.ends)) in
    ap (position o) (sym a.at) ∙ position_twice o (place o start i) a.inside

-- room in a shorter I-PDU is room in a slot, and then each bit lies in the I-PDU
pub room_slot : (o : Order) (start size L : ℕ) → L ≤ 8 → room o start size L ≡ true → room o start size 8 ≡ true
unfolding room
room_slot Little start size L h e = let k : start + size ≤ 8 * L = leb-true _ _ e in le-leb (start + size) 64 (omega arith)
room_slot Big start size L h e =
    let k : start < 8 * L = ltb-true _ _ (and_split _ (leb size (8 * (start / 8 + 1) - start % 8)) e).0 in
    let first : ltb start 64 ≡ true = lt-ltb start 64 (omega arith) in
    rw first (and_split (ltb start (8 * L)) _ e).1

pub place_inside : (o : Order) (start size L i : ℕ) → L ≤ 8 → room o start size L ≡ true → i < size → place o start i < 8 * L
unfolding room position
place_inside Little start size L i h e k =
    let r : start + size ≤ 8 * L = leb-true _ _ e in omega (arith, place_little start i)
place_inside Big start size L i h e k =
    let s : start < 8 * L = ltb-true _ _ (and_split _ (leb size (8 * (start / 8 + 1) - start % 8)) e).0 in
    let r : Run Big start size = run Big start size (omega arith) (room_slot Big start size L h e) in
    let a : Along Big start i = along Big start i r.begins (omega arith) in
    omega arith
