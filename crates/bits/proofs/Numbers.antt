-- Laws of `bit` and `number`: a number is its bits.
-- Assumes nothing.
use Rattle.std.proofs.Common.{◌≡◌, ℕ, zero, suc, ◌+◌, ◌-◌, ◌*◌, ◌/◌, ◌%◌, ◌^◌, ◌<◌, ◌≤◌, max, ◌⊎◌, sym, refl, ap, ◌∙◌, inl, inr, ⊎_elim, le_of_suc-le-suc, not-suc-le-zero}
use Rattle.std.proofs.Common.{mod-eq_of_lt, zero-lt-suc, mul_assoc, mul_comm, zero-add, mul-one, arith, pow_pos, shr-shr, bit_or}
use native.Mathlib.Nat.{pow-succ', div-div-eq-div-mul, add-mul-div_left, add-mul-mod_self_left, mod-add-div}
use native.Mathlib.Nat.{div-eq_of_lt, zero-div}
use lib.Bits.{or_shr, or_step}
use lib.Arith.{mod-mul}
use Rattle.memory.proofs.Tests.{lt_or_le, eq_or_ne}
use Rattle.bits.specs.Bits.{bit, number}

pub bit_lt : (n k : ℕ) → bit n k < 2
unfolding bit
bit_lt n k = omega arith

pub bit_zero : (n : ℕ) → bit n 0 ≡ n % 2
unfolding bit
bit_zero n = omega arith

pub bit_suc : (n k : ℕ) → bit n (suc k) ≡ bit (n / 2) k
unfolding bit
bit_suc n k = ap (λ (d : ℕ). n / d % 2) (pow-succ' 2 k) ∙ ap (λ (m : ℕ). m % 2) (sym (div-div-eq-div-mul n 2 (2 ^ k)))

pub bit_of_zero : (k : ℕ) → bit 0 k ≡ 0
unfolding bit
bit_of_zero k = ap (λ (m : ℕ). m % 2) (zero-div (2 ^ k))

-- the bits of n / 2 ^ k are those of n from bit k on
pub bit_div : (n k i : ℕ) → bit (n / 2 ^ k) i ≡ bit n (k + i)
unfolding bit
bit_div n k i = ap (λ (m : ℕ). m % 2) (shr-shr n k i)

-- what lies from bit k on is not seen below it
pub bit_low : (k b v i : ℕ) → i < k → bit (b + 2 ^ k * v) i ≡ bit b i
bit_low zero b v i h = absurd (not-suc-le-zero h)
bit_low (suc k) b v zero h =
    rw (pow-succ', mul_assoc) (bit_zero _ ∙ add-mul-mod_self_left b 2 (2 ^ k * v) ∙ sym (bit_zero b))
bit_low (suc k) b v (suc i) h =
    rw (pow-succ', mul_assoc)
    (bit_suc _ i ∙ ap (λ (m : ℕ). bit m i) (add-mul-div_left b (2 ^ k * v) (zero-lt-suc 1))
    ∙ bit_low k (b / 2) v i (le_of_suc-le-suc h) ∙ sym (bit_suc b i))

pub bit_high : (k b v i : ℕ) → b < 2 ^ k → bit (b + 2 ^ k * v) (k + i) ≡ bit v i
bit_high k b v i h =
    sym (bit_div (b + 2 ^ k * v) k i)
    ∙ ap (λ (m : ℕ). bit m i) (add-mul-div_left b v (pow_pos k) ∙ ap (λ (m : ℕ). m + v) (div-eq_of_lt h) ∙ zero-add v)

-- a number of k bits has no bit from bit k on
pub bit_above : (k w i : ℕ) → w < 2 ^ k → k ≤ i → bit w i ≡ 0
bit_above k w i low h =
    let there : i ≡ k + (i - k) = omega arith in
    let same : w + 2 ^ k * 0 ≡ w = omega arith in
    ap (bit w) there ∙ (rw same at (bit_high k w 0 (i - k) low)) ∙ bit_of_zero (i - k)

-- bit k added to a number of k bits: it is there, the others stay, and so a bit of the sum is it or was there
pub bit_own : (k w : ℕ) → w < 2 ^ k → bit (w + 2 ^ k) k ≡ 1
unfolding bit
bit_own k w low =
    let here : k + 0 ≡ k = omega arith in
    rw (mul-one (2 ^ k), here) at (bit_high k w 1 0 low)

pub bit_others : (k w i : ℕ) → w < 2 ^ k → (i ≡ k → ⊥) → bit (w + 2 ^ k) i ≡ bit w i
bit_others k w i low ne =
    ⊎_elim (λ (h : i < k). rw (mul-one (2 ^ k)) at (bit_low k w 1 i h)) (λ (h : k ≤ i). above (i - k - 1) (omega (arith, h, ne))) (lt_or_le i k)
  where
    above : (j : ℕ) → i ≡ k + suc j → bit (w + 2 ^ k) i ≡ bit w i
    above j there =
        let none : bit (w + 2 ^ k) (k + suc j) ≡ 0 =
        rw (mul-one (2 ^ k)) at (bit_high k w 1 (suc j) low) ∙ bit_suc 1 j ∙ bit_of_zero j in
        ap (bit (w + 2 ^ k)) there ∙ none ∙ sym (bit_above k w i low (omega (arith, there)))

pub bit_added : (k w i : ℕ) → w < 2 ^ k → bit (w + 2 ^ k) i ≡ 1 → (i ≡ k) ⊎ ((i < k) × (bit w i ≡ 1))
bit_added k w i low e =
    ⊎_elim inl
    (λ (ne : i ≡ k → ⊥).
    let one : bit w i ≡ 1 = sym (bit_others k w i low ne) ∙ e in
    inr (⊎_elim (λ (h : i < k). h) (λ (h : k ≤ i). absurd (omega (arith, one, bit_above k w i low h))) (lt_or_le i k), one))
    (eq_or_ne i k)

pub bit_mod : (n k i : ℕ) → i < k → bit (n % 2 ^ k) i ≡ bit n i
bit_mod n k i h = sym (bit_low k (n % 2 ^ k) (n / 2 ^ k) i h) ∙ ap (λ (m : ℕ). bit m i) (mod-add-div n (2 ^ k))

pub or_bit : (a b i : ℕ) → bit (bit_or a b) i ≡ max (bit a i) (bit b i)
unfolding bit
or_bit a b i = rw or_shr (omega (arith, or_step (a / 2 ^ i) (b / 2 ^ i)))

pub number_ext : (k : ℕ) (b c : ℕ → ℕ) → ((i : ℕ) → i < k → b i ≡ c i) → number k b ≡ number k c
unfolding number
number_ext zero b c e = refl
number_ext (suc k) b c e =
    cc (e 0 (zero-lt-suc k), number_ext k (λ i. b (suc i)) (λ i. c (suc i)) (λ i h. e (suc i) (omega arith)))

pub number_bit : (b : ℕ → ℕ) → ((i : ℕ) → b i < 2) → (k i : ℕ) → i < k → bit (number k b) i ≡ b i
unfolding number
number_bit b two zero i h = absurd (not-suc-le-zero h)
number_bit b two (suc k) zero h = bit_zero _ ∙ omega (arith, two 0)
number_bit b two (suc k) (suc i) h =
    let rest : ℕ = number k (λ j. b (suc j)) in
    let half : (b 0 + 2 * rest) / 2 ≡ rest = omega (arith, two 0) in
    bit_suc _ i ∙ ap (λ (m : ℕ). bit m i) half ∙ number_bit (λ j. b (suc j)) (λ j. two (suc j)) k i (le_of_suc-le-suc h)

pub number_lt : (b : ℕ → ℕ) → ((i : ℕ) → b i < 2) → (k : ℕ) → number k b < 2 ^ k
unfolding number
number_lt b two zero = omega arith
number_lt b two (suc k) = rw pow-succ' (omega (arith, two 0, number_lt (λ i. b (suc i)) (λ i. two (suc i)) k))

-- the low k bits of n make n mod 2 ^ k
pub number_bits : (k n : ℕ) → number k (bit n) ≡ n % 2 ^ k
unfolding number
number_bits zero n = omega arith
number_bits (suc k) n =
    let halves : number k (λ i. bit n (suc i)) ≡ n / 2 % 2 ^ k =
    number_ext k (λ i. bit n (suc i)) (bit (n / 2)) (λ i h. bit_suc n i) ∙ number_bits k (n / 2) in
    let whole : n % (2 ^ k * 2) ≡ (n / 2 % 2 ^ k) * 2 + n % 2 = mod-mul n (pow_pos k) (zero-lt-suc 1) in
    rw (pow-succ', mul_comm 2 (2 ^ k)) (omega (arith, bit_zero n))

-- two numbers of k bits with the same bits are equal
pub bits_ext : (k a c : ℕ) → a < 2 ^ k → c < 2 ^ k → ((i : ℕ) → i < k → bit a i ≡ bit c i) → a ≡ c
bits_ext k a c ha hc e =
    sym (mod-eq_of_lt ha) ∙ sym (number_bits k a) ∙ number_ext k (bit a) (bit c) e ∙ number_bits k c ∙ mod-eq_of_lt hc
