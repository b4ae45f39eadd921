-- Laws of signed messages (W-207): what the extension of a message comes to, that it fits 32 bits, and when a stored value is read back.
-- Assumes nothing.
use Rattle.std.proofs.Common.{◌≡◌, ℕ, zero, suc, ◌+◌, ◌-◌, ◌*◌, ◌/◌, ◌%◌, ◌^◌, ◌<◌, ◌≤◌, Bool, true, false, eqb, ltb, leb, List, length, pos, negsuc, neg_ℤ, sym, refl, ap, ◌∙◌}
use Rattle.std.proofs.Common.{⊎_elim, zero-le, lt_of_lt_of_le, add-zero, mod-lt, mod-eq_of_lt, mul_comm, arith, pow_pos, pow_mono, le-ltb, lt-ltb, eq-eqb, ne_eqb, eqb-true, le-leb}
use native.Mathlib.Nat.{pow-succ', add-mul-mod_self_left}
use borrow.Author.Tests.{lt-leb}
use lib.Dec.{leb-suc-suc}
use lib.Pow.{high_ones}
use lib.Signed.{le_z}
use Rattle.memory.specs.Search.{pick}
use Rattle.memory.proofs.Tests.{lt_or_le}
use Rattle.memory.proofs.IntegerLaws.{integer_low, integer_high}
use Rattle.bits.specs.declared.Order.{Order}
use Rattle.bits.specs.Bits.{bit, number, packed, unpacked, extended, read_back, fits_bits}
use Rattle.bits.specs.Slots.{bit_field}
use Rattle.bits.proofs.Numbers.{bit_lt, bit_zero, bit_suc, bit_low, bit_high, bit_above, bit_own, number_bit, number_lt, bits_ext}
use Rattle.bits.proofs.RoundTrip.{Fits, round_trip}

-- ---- a power of two and its half, and integers below zero

minus_at_most : (h n : ℕ) → le_z (neg_ℤ (pos h)) (pos n) ≡ true
minus_at_most zero n = le-leb 0 n zero-le
minus_at_most (suc h) n = refl

minus_below : (h n : ℕ) → 0 < h → le_z (neg_ℤ (pos h)) (negsuc n) ≡ leb (suc n) h
minus_below zero n some = absurd (omega arith)
minus_below (suc h) n some = sym (leb-suc-suc n h)

halves : (size : ℕ) → 1 ≤ size → 2 ^ size ≡ 2 * 2 ^ (size - 1)
halves size some = let whole : suc (size - 1) ≡ size = omega arith in rw whole at (pow-succ' 2 (size - 1))

-- ---- ones above the message

-- k ones
ones_bit : (k i : ℕ) → i < k → bit (2 ^ k - 1) i ≡ 1
ones_bit zero i h = absurd (omega arith)
ones_bit (suc k) zero h = bit_zero (2 ^ suc k - 1) ∙ omega (arith, pow-succ' 2 k, pow_pos k)
ones_bit (suc k) (suc i) h =
    let half : (2 ^ suc k - 1) / 2 ≡ 2 ^ k - 1 = omega (arith, pow-succ' 2 k, pow_pos k) in
    bit_suc (2 ^ suc k - 1) i ∙ ap (λ (n : ℕ). bit n i) half ∙ ones_bit k i (omega arith)

-- a signed message, by its top bit
module _ (size v : ℕ) (some : 1 ≤ size) (most : size ≤ 32) (fits : v < 2 ^ size) where
  abbrev copied : ℕ → ℕ
  copied i = bit v (pick (ltb i size) i (size - 1))

  by_bits : (w : ℕ) → w < 2 ^ 32 → ((i : ℕ) → i < size → bit v i ≡ bit w i) → ((i : ℕ) → size ≤ i → i < 32 → bit v (size - 1) ≡ bit w i)
      → extended true size v ≡ w
  unfolding extended
  by_bits w low own above =
      let two : (i : ℕ) → copied i < 2 = λ i. bit_lt v (pick (ltb i size) i (size - 1)) in
      bits_ext 32 (number 32 copied) w (number_lt copied two 32) low
      (λ i h.
      number_bit copied two 32 i h
      ∙ ⊎_elim (λ (k : i < size). rw (lt-ltb i size k) (own i k)) (λ (k : size ≤ i). rw (le-ltb i size k) (above i k h)) (lt_or_le i size))

  pub extended_low : v < 2 ^ (size - 1) → extended true size v ≡ v
  extended_low low =
      by_bits v (lt_of_lt_of_le fits (pow_mono most)) (λ i h. refl)
      (λ i h k. bit_above (size - 1) v (size - 1) low (omega arith) ∙ sym (bit_above (size - 1) v i low (omega arith)))

  pub extended_high : 2 ^ (size - 1) ≤ v → extended true size v ≡ v + (2 ^ 32 - 2 ^ size)
  extended_high high =
      let k : ℕ = 32 - size in
      let all : k + size ≡ 32 = omega arith in
      let ones : 2 ^ 32 - 2 ^ size ≡ 2 ^ size * (2 ^ k - 1) = rw all at (high_ones k size) ∙ mul_comm (2 ^ k - 1) (2 ^ size) in
      let top : bit v (size - 1) ≡ 1 =
      let rest : v - 2 ^ (size - 1) + 2 ^ (size - 1) ≡ v = omega (arith, high) in
      rw rest at (bit_own (size - 1) (v - 2 ^ (size - 1)) (omega (arith, halves size some))) in
      rw ones
      (by_bits (v + 2 ^ size * (2 ^ k - 1)) (rw (← ones) (omega (arith, fits, pow_mono most)))
      (λ i h. sym (bit_low size v (2 ^ k - 1) i h))
      (λ i h b.
      let there : size + (i - size) ≡ i = omega arith in
      top ∙ sym (rw there at (bit_high size v (2 ^ k - 1) (i - size) fits ∙ ones_bit k (i - size) (omega arith)))))

  pub extended_lt : (signed : Bool) → extended signed size v < 2 ^ 32
  extended_lt true =
      ⊎_elim
      (λ (h : v < 2 ^ (size - 1)). rw (extended_low h) (lt_of_lt_of_le fits (pow_mono most)))
      (λ (h : 2 ^ (size - 1) ≤ v). rw (extended_high h) (omega (arith, fits, pow_mono most)))
      (lt_or_le v (2 ^ (size - 1)))
  extended_lt false = unfold extended in lt_of_lt_of_le fits (pow_mono most)

  -- as the code has it: the top bit is added within the field's bits, and taken off again
  pub turned_over : (signed : Bool) {top q r : ℕ} → top ≡ pick signed (2 ^ (size - 1)) 0 → q ≡ 2 ^ size → r < 2 ^ 32
      → (r + top) % 2 ^ 32 ≡ (v + top) % q → r ≡ extended signed size v
  turned_over false {top} {q} {r} none all low e =
      unfold extended in
      let same : (v + top) % q ≡ v = rw (none, all) (ap (λ (n : ℕ). n % 2 ^ size) (add-zero v) ∙ mod-eq_of_lt fits) in
      omega (arith, none, low, e, same)
  turned_over true {top} {q} {r} half all low e =
      let two = halves size some in
      let most : top ≤ 2 ^ 31 = rw half (pow_mono {j = 31} (omega arith)) in
      ⊎_elim
      (λ (h : v < 2 ^ (size - 1)).
      let sum : (v + top) % q ≡ v + top = rw all (mod-eq_of_lt (omega (arith, h, half, two))) in
      omega (arith, low, e, sum, most, fits) ∙ sym (extended_low h))
      (λ (h : 2 ^ (size - 1) ≤ v).
      let over : v + top ≡ v - top + 2 ^ size * 1 = omega (arith, h, half, two) in
      let rest : (v + top) % q ≡ v - top = rw (all, over) (add-mul-mod_self_left (v - top) (2 ^ size) 1 ∙ mod-eq_of_lt (omega (arith, fits))) in
      omega (arith, h, half, two, low, e, rest, most, fits) ∙ sym (extended_high h))
      (lt_or_le v (2 ^ (size - 1)))

-- below its size a message keeps its bits
pub extended_bit : (signed : Bool) (size v i : ℕ) → i < size → size ≤ 32 → bit (extended signed size v) i ≡ bit v i
unfolding extended
extended_bit false size v i low most = refl
extended_bit true size v i low most =
    number_bit (λ j. bit v (pick (ltb j size) j (size - 1))) (λ j. bit_lt v (pick (ltb j size) j (size - 1))) 32 i (omega arith) ∙ rw (lt-ltb i size low)

-- a field has its bits and no more
pub field_lt : (w at size : ℕ) → bit_field w at size < 2 ^ size
unfolding bit_field
field_lt w at size = mod-lt (w / 2 ^ at) (pow_pos size)

-- ---- a stored value, read back

-- signed, of a value of 32 bits: `half` is where its negative messages begin
module _ (size v : ℕ) (some : 1 ≤ size) (most : size ≤ 32) (low : v < 2 ^ 32) where
  half : ℕ
  half = 2 ^ (size - 1)

  halved : (2 ^ size ≡ 2 * half) × (0 < half) × (half ≤ 2 ^ 31)
  unfolding half
  halved = (halves size some, pow_pos (size - 1), pow_mono {j = 31} (omega arith))

  rest_lt : v % 2 ^ size < 2 ^ size
  rest_lt = mod-lt v (pow_pos size)

  back_low : v < half → read_back true size v ≡ v
  unfolding read_back half
  back_low h =
      let same : v % 2 ^ size ≡ v = mod-eq_of_lt (omega (arith, h, halved)) in
      rw same (extended_low size v some most (omega (arith, h, halved)) h)

  back_high : 2 ^ 32 - half ≤ v → read_back true size v ≡ v
  unfolding read_back half
  back_high h =
      let k : ℕ = 32 - size in
      let all : k + size ≡ 32 = omega arith in
      let ones : 2 ^ 32 - 2 ^ size ≡ 2 ^ size * (2 ^ k - 1) = rw all at (high_ones k size) ∙ mul_comm (2 ^ k - 1) (2 ^ size) in
      let r : ℕ = v - (2 ^ 32 - 2 ^ size) in
      let short : r < 2 ^ size = omega (arith, low, halved) in
      let whole : v ≡ r + 2 ^ size * (2 ^ k - 1) = omega (arith, h, halved, ones) in
      let rest : v % 2 ^ size ≡ r = ap (λ (n : ℕ). n % 2 ^ size) whole ∙ add-mul-mod_self_left r (2 ^ size) (2 ^ k - 1) ∙ mod-eq_of_lt short in
      rw rest (extended_high size r some most short (omega (arith, h, halved)) ∙ omega (arith, h, halved))

  back_other : half ≤ v → v < 2 ^ 32 - half → read_back true size v ≡ v → ⊥
  unfolding read_back half
  back_other h k e =
      ⊎_elim
      (λ (l : v % 2 ^ size < 2 ^ (size - 1)). omega (arith, h, k, l, e, extended_low size (v % 2 ^ size) some most rest_lt l))
      (λ (l : 2 ^ (size - 1) ≤ v % 2 ^ size). omega (arith, h, k, l, e, halved, extended_high size (v % 2 ^ size) some most rest_lt l))
      (lt_or_le (v % 2 ^ size) (2 ^ (size - 1)))

  plain : v < 2 ^ 31 → eqb (read_back true size v) v ≡ fits_bits true size v
  unfolding fits_bits half
  plain h =
      rw (integer_low true v h, minus_at_most (2 ^ (size - 1)) v)
      (⊎_elim
      (λ (l : v < 2 ^ (size - 1)). rw (lt-ltb v (2 ^ (size - 1)) l) (eq-eqb (read_back true size v) v (back_low l)))
      (λ (l : 2 ^ (size - 1) ≤ v). rw (le-ltb v (2 ^ (size - 1)) l) (ne_eqb (read_back true size v) v (back_other l (omega (arith, h, halved)))))
      (lt_or_le v (2 ^ (size - 1))))

  negative : 2 ^ 31 ≤ v → eqb (read_back true size v) v ≡ fits_bits true size v
  unfolding fits_bits half
  negative h =
      rw (integer_high v h low, minus_below (2 ^ (size - 1)) (2 ^ 32 - suc v) halved.1)
      (⊎_elim
      (λ (l : v < 2 ^ 32 - 2 ^ (size - 1)).
      rw (lt-leb (suc (2 ^ 32 - suc v)) (2 ^ (size - 1)) (omega (arith, l)))
      (ne_eqb (read_back true size v) v (back_other (omega (arith, h, halved)) l)))
      (λ (l : 2 ^ 32 - 2 ^ (size - 1) ≤ v).
      rw (le-leb (suc (2 ^ 32 - suc v)) (2 ^ (size - 1)) (omega (arith, l, low))) (eq-eqb (read_back true size v) v (back_high l)))
      (lt_or_le v (2 ^ 32 - 2 ^ (size - 1))))

-- it is the value exactly where that fits its bits
pub fits_exactly : (signed : Bool) (size v : ℕ) → 1 ≤ size → size ≤ 32 → v < 2 ^ 32 → eqb (read_back signed size v) v ≡ fits_bits signed size v
fits_exactly false size v some most low =
    unfold read_back extended fits_bits in
    ⊎_elim
    (λ (h : v < 2 ^ size). rw (mod-eq_of_lt h, lt-ltb v (2 ^ size) h) (eq-eqb v v refl))
    (λ (h : 2 ^ size ≤ v). rw (le-ltb v (2 ^ size) h) (ne_eqb (v % 2 ^ size) v (λ e. omega (arith, h, e, mod-lt v (pow_pos size)))))
    (lt_or_le v (2 ^ size))
fits_exactly true size v some most low = ⊎_elim (plain size v some most low) (negative size v some most low) (lt_or_le v (2 ^ 31))

module _ (signed : Bool) (size v : ℕ) (some : 1 ≤ size) (most : size ≤ 32) (low : v < 2 ^ 32) where
  pub fits_back : fits_bits signed size v ≡ true → read_back signed size v ≡ v
  fits_back fits = eqb-true (read_back signed size v) v (fits_exactly signed size v some most low ∙ fits)

  pub back_fits : read_back signed size v ≡ v → fits_bits signed size v ≡ true
  back_fits back = sym (fits_exactly signed size v some most low) ∙ eq-eqb (read_back signed size v) v back

-- a stored reading, unpacked, gives its low bits, extended
pub signed_round_trip : (o : Order) (start size : ℕ) (f : List ℕ) → Fits o start size (length f) → (signed : Bool) (v : ℕ)
    → extended signed size (unpacked o start size (packed o start size v f)) ≡ read_back signed size v
unfolding read_back
signed_round_trip o start size f fits signed v = ap (extended signed size) (round_trip o start size f fits v)
