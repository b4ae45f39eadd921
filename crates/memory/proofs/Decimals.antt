-- Laws of `decimal`: a number's digits are its last one after those of its tenth, and how many there are.
-- Assumes nothing.
use Rattle.std.proofs.Common.{◌≡◌, ℕ, zero, suc, ◌/◌, ◌%◌, ◌^◌, ◌<◌, ◌≤◌, List, [], ◌∷◌, ◌++◌, length, sym, ap, ◌∙◌, ⊎_elim, append_assoc, zero-le, arith, length-append, le-ltb, lt-ltb}
use native.Mathlib.Nat.{pow-succ'}
use Rattle.memory.specs.Texts.{digit_of, decimal_digits, decimal}
use Rattle.memory.proofs.Tests.{lt_or_le}

digits_one : (k n : ℕ) → n < 10 → decimal_digits (suc k) n ≡ digit_of n ∷ []
digits_one k n low = rw (lt-ltb n 10 low)

digits_more : (k n : ℕ) → 10 ≤ n → decimal_digits (suc k) n ≡ decimal_digits k (n / 10) ++ digit_of (n % 10) ∷ []
digits_more k n high = rw (le-ltb n 10 high)

-- room for more digits than a number has adds none
digits_enough : (k n : ℕ) → n < 10 ^ suc k → decimal_digits (suc (suc k)) n ≡ decimal_digits (suc k) n
digits_enough zero n h = let low : n < 10 = h in digits_one 1 n low ∙ sym (digits_one 0 n low)
digits_enough (suc k) n h =
    ⊎_elim
    (λ (low : n < 10). digits_one (suc (suc k)) n low ∙ sym (digits_one (suc k) n low))
    (λ (high : 10 ≤ n).
    let tenth : n / 10 < 10 ^ suc k = omega (arith, pow-succ' 10 (suc k)) in
    digits_more (suc (suc k)) n high ∙ ap (λ (l : List ℕ). l ++ digit_of (n % 10) ∷ []) (digits_enough k (n / 10) tenth)
    ∙ sym (digits_more (suc k) n high))
    (lt_or_le n 10)

pub decimal_one : (n : ℕ) → n < 10 → decimal n ≡ digit_of n ∷ []
unfolding decimal
decimal_one n low = digits_one 19 n low

pub decimal_more : (n : ℕ) → 10 ≤ n → n < 10 ^ 20 → decimal n ≡ decimal (n / 10) ++ digit_of (n % 10) ∷ []
unfolding decimal
decimal_more n high h =
    digits_more 19 n high ∙ ap (λ (l : List ℕ). l ++ digit_of (n % 10) ∷ []) (sym (digits_enough 18 (n / 10) (omega arith)))

-- two digits, and two more
pub decimal_two : (n : ℕ) → 10 ≤ n → n < 100 → decimal n ≡ digit_of (n / 10) ∷ digit_of (n % 10) ∷ []
decimal_two n high low =
    decimal_more n high (omega (arith, low)) ∙ ap (λ (l : List ℕ). l ++ digit_of (n % 10) ∷ []) (decimal_one (n / 10) (omega (arith, low)))

pub decimal_by_two : (n : ℕ) → 100 ≤ n → n < 10 ^ 20 → decimal n ≡ decimal (n / 100) ++ digit_of (n % 100 / 10) ∷ digit_of (n % 100 % 10) ∷ []
decimal_by_two n high h =
    let tenth : n / 10 / 10 ≡ n / 100 = omega arith in
    let first : n / 10 % 10 ≡ n % 100 / 10 = omega arith in
    let last : n % 10 ≡ n % 100 % 10 = omega arith in
    decimal_more n (omega (arith, high)) h
    ∙ ap (λ (l : List ℕ). l ++ digit_of (n % 10) ∷ []) (decimal_more (n / 10) (omega (arith, high)) (omega (arith, h)))
    ∙ rw (tenth, first, last) (append_assoc (decimal (n / 100)) (digit_of (n % 100 / 10) ∷ []) (digit_of (n % 100 % 10) ∷ []))

-- ---- how many digits

digits_length : (k n : ℕ) → length (decimal_digits k n) ≤ k
digits_length zero n = zero-le
digits_length (suc k) n =
    ⊎_elim
    (λ (low : n < 10). rw (digits_one k n low) (omega arith))
    (λ (high : 10 ≤ n). rw (digits_more k n high, length-append) (omega (arith, digits_length k (n / 10))))
    (lt_or_le n 10)

pub decimal_length : (n : ℕ) → length (decimal n) ≤ 20
unfolding decimal
decimal_length n = digits_length 20 n

-- a number below 10 ^ (k + 1) has at most k + 1
digits_within : (j k n : ℕ) → n < 10 ^ suc k → length (decimal_digits j n) ≤ suc k
digits_within zero k n h = zero-le
digits_within (suc j) zero n h = let low : n < 10 = h in rw (digits_one j n low) (omega arith)
digits_within (suc j) (suc k) n h =
    ⊎_elim
    (λ (low : n < 10). rw (digits_one j n low) (omega arith))
    (λ (high : 10 ≤ n).
    let tenth : n / 10 < 10 ^ suc k = omega (arith, pow-succ' 10 (suc k)) in
    rw (digits_more j n high, length-append) (omega (arith, digits_within j k (n / 10) tenth)))
    (lt_or_le n 10)

pub decimal_within : (k n : ℕ) → n < 10 ^ suc k → length (decimal n) ≤ suc k
unfolding decimal
decimal_within k n h = digits_within 20 k n h
