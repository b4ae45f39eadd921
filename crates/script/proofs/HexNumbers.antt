-- A hex field as a number and a count of digits: whether it is whole bytes, and which, as long as there are at most eight.
-- Assumes nothing.
use Rattle.std.proofs.Common.{◌≡◌, ℕ, suc, ◌+◌, ◌*◌, ◌/◌, ◌%◌, ◌^◌, ◌<◌, ◌≤◌, min, true, false, not, eqb, List, [], ◌∷◌, ◌++◌, length, refl, ⊎_elim, append_assoc, append-nil}
use Rattle.std.proofs.Common.{arith, ltb-true, le-ltb, lt-ltb, eq-eqb, ne_eqb}
use Rattle.memory.proofs.Tests.{lt_or_le, each_true, true_or_false, and_false}
use Rattle.script.proofs.BytesDown.{down_none, down_more, down_length}
use Rattle.script.specs.declared.Hex.TheVariants.{Digits, NotHex}
use Rattle.script.specs.Reader.{one_more, hex_with, no_digits, hex_from, whole_bytes, bytes_down, frame_of_hex, frame_bytes}
use Rattle.script.specs.Reading.{hex_value, is_hex_digit, are_hex_pairs, is_bytes, hex_bytes}

-- ---- one digit

with_digit_lem : (x n b : ℕ) → is_hex_digit b ≡ true → hex_with (Digits x n) b ≡ Digits (x % (2 ^ 60) * 16 + hex_value b) (one_more n)
with_digit_lem x n b e = rw e

with_other : (x n b : ℕ) → is_hex_digit b ≡ false → hex_with (Digits x n) b ≡ NotHex
with_other x n b e = rw e

never_hex : (h : List ℕ) → hex_from NotHex h ≡ NotHex
never_hex [] = refl
never_hex (b ∷ h) = never_hex h

-- the count: below 18 one more, and between 17 and 18 from there on
more_counted : (n : ℕ) → n ≤ 18 → (one_more n % 2 ≡ (n + 1) % 2) × (0 < one_more n) × (one_more n ≤ 18)
more_counted n low =
    ⊎_elim
    (λ (h : n < 18). rw (lt-ltb n 18 h) (omega arith))
    (λ (h : 18 ≤ n). rw (le-ltb n 18 h) (omega arith))
    (lt_or_le n 18)

-- a pair more
pair_counted : (k : ℕ) → k ≤ 9 → one_more (one_more (2 * k)) ≡ 2 * min 9 (k + 1)
pair_counted k low =
    ⊎_elim
    (λ (h : 2 * k < 17). rw (lt-ltb (2 * k) 18 (omega arith), lt-ltb (2 * k + 1) 18 (omega arith)) (omega arith))
    (λ (h : 17 ≤ 2 * k). rw (le-ltb (2 * k) 18 (omega arith)) (omega arith))
    (lt_or_le (2 * k) 17)

-- ---- whole bytes

whole_from : (x n : ℕ) (h : List ℕ) → n % 2 ≡ 0 → n ≤ 18 → 0 < n + length h → whole_bytes (hex_from (Digits x n) h) ≡ are_hex_pairs h
whole_from x n [] even low some = rw (ne_eqb n 0 (omega arith), eq-eqb (n % 2) 0 even)
whole_from x n (a ∷ []) even low some =
    ⊎_elim
    (λ (t : is_hex_digit a ≡ true).
    let odd : one_more n % 2 ≡ 0 → ⊥ = λ e. omega (arith, more_counted n low) in
    rw (with_digit_lem x n a t, ne_eqb (one_more n % 2) 0 odd) (and_false (not (eqb (one_more n) 0))))
    (λ (t : is_hex_digit a ≡ false). rw (with_other x n a t))
    (true_or_false (is_hex_digit a))
whole_from x n (a ∷ b ∷ h) even low some =
    ⊎_elim
    (λ (t : is_hex_digit a ≡ true).
    ⊎_elim
    (λ (s : is_hex_digit b ≡ true).
    let first = more_counted n low in
    let second = more_counted (one_more n) first.2 in
    rw (with_digit_lem x n a t, with_digit_lem (x % (2 ^ 60) * 16 + hex_value a) (one_more n) b s, t, s)
    (whole_from ((x % (2 ^ 60) * 16 + hex_value a) % (2 ^ 60) * 16 + hex_value b) (one_more (one_more n)) h
    (omega arith) second.2 (omega arith)))
    (λ (s : is_hex_digit b ≡ false).
    rw (with_digit_lem x n a t, with_other (x % (2 ^ 60) * 16 + hex_value a) (one_more n) b s, t, s, never_hex h))
    (true_or_false (is_hex_digit b)))
    (λ (t : is_hex_digit a ≡ false). rw (with_other x n a t, t, never_hex h))
    (true_or_false (is_hex_digit a))

pub whole_bytes_lem : (h : List ℕ) → whole_bytes (hex_from no_digits h) ≡ is_bytes h
whole_bytes_lem [] = refl
whole_bytes_lem (a ∷ h) = whole_from 0 0 (a ∷ h) refl (omega arith) (omega arith)

-- ---- which bytes

-- what is kept of k bytes in x, and those of h after them
record Kept (x k : ℕ) (h : List ℕ) : Type 0 where
  value : ℕ
  read : hex_from (Digits x (2 * k)) h ≡ Digits value (2 * min 9 (k + length (hex_bytes h)))
  spelt : k + length (hex_bytes h) ≤ 8 → bytes_down (k + length (hex_bytes h)) value ≡ bytes_down k x ++ hex_bytes h

pair_more : (k x a b : ℕ) → k ≤ 7 → a < 16 → b < 16
    → bytes_down (suc k) ((x % (2 ^ 60) * 16 + a) % (2 ^ 60) * 16 + b) ≡ bytes_down k x ++ (16 * a + b) ∷ []
pair_more k x a b room high low =
    down_more k x ((x % (2 ^ 60) * 16 + a) % (2 ^ 60) * 16 + b) (16 * a + b) room (omega arith) (omega arith)

-- a pair of digits in front
paired : ℕ → ℕ → ℕ → ℕ
paired x a b = (x % (2 ^ 60) * 16 + hex_value a) % (2 ^ 60) * 16 + hex_value b

kept_pair : (x k a b : ℕ) (h : List ℕ) → k ≤ 9 → is_hex_digit a ≡ true → is_hex_digit b ≡ true → Kept (paired x a b) (min 9 (k + 1)) h
    → Kept x k (a ∷ b ∷ h)
unfolding paired
kept_pair x k a b h low ha hb rest =
    let count : min 9 (min 9 (k + 1) + length (hex_bytes h)) ≡ min 9 (k + suc (length (hex_bytes h))) = omega arith in record {
      value = rest.value;
      read =
          rw (with_digit_lem x (2 * k) a ha, with_digit_lem (x % (2 ^ 60) * 16 + hex_value a) (one_more (2 * k)) b hb, pair_counted k low, ← count)
          rest.read;
      spelt = λ room.
          let one : min 9 (k + 1) ≡ suc k = omega arith in
          let sum : k + suc (length (hex_bytes h)) ≡ suc k + length (hex_bytes h) = omega arith in
          let after : bytes_down (suc k + length (hex_bytes h)) rest.value ≡ bytes_down (suc k) (paired x a b) ++ hex_bytes h =
          rw one at (rest.spelt (omega arith)) in
          let last : bytes_down (suc k) (paired x a b) ≡ bytes_down k x ++ (16 * hex_value a + hex_value b) ∷ [] =
          pair_more k x (hex_value a) (hex_value b) (omega arith) (ltb-true (hex_value a) 16 ha) (ltb-true (hex_value b) 16 hb) in
          rw (sum, after, last) (append_assoc (bytes_down k x) ((16 * hex_value a + hex_value b) ∷ []) (hex_bytes h));
    }

kept : (x k : ℕ) (h : List ℕ) → k ≤ 9 → are_hex_pairs h ≡ true → Kept x k h
kept x k [] low e =
    let none : k + length {A = ℕ} [] ≡ k = omega arith in
    let all : min 9 k ≡ k = omega arith in
    record { value = x; read = rw (none, all); spelt = λ room. rw (none, append-nil) }
kept x k (a ∷ []) low e = let z : ◌≡◌ {A = ℕ} 0 1 = cc in absurd (omega arith)
kept x k (a ∷ b ∷ h) low e =
    let three = each_true (is_hex_digit a) (is_hex_digit b ∷ are_hex_pairs h ∷ []) e in
    kept_pair x k a b h low three.0 three.1.0 (kept (paired x a b) (min 9 (k + 1)) h (omega arith) three.1.1)

module _ (h : List ℕ) (pairs : are_hex_pairs h ≡ true) where
  pub frame_short : length (hex_bytes h) ≤ 8 → frame_bytes (frame_of_hex (hex_from no_digits h)) ≡ hex_bytes h
  unfolding frame_bytes
  frame_short short =
      let all = kept 0 0 h (omega arith) pairs in
      let count : min 9 (0 + length (hex_bytes h)) ≡ length (hex_bytes h) = omega arith in
      let half : 2 * length (hex_bytes h) / 2 ≡ 0 + length (hex_bytes h) = omega arith in
      rw (all.read, count, lt-ltb (2 * length (hex_bytes h)) 18 (omega arith), half, all.spelt (omega arith), down_none)

  pub frame_long : 8 < length (hex_bytes h) → 8 < length (frame_bytes (frame_of_hex (hex_from no_digits h)))
  unfolding frame_bytes
  frame_long long =
      let all = kept 0 0 h (omega arith) pairs in
      let count : min 9 (0 + length (hex_bytes h)) ≡ 9 = omega arith in
      rw (all.read, count, down_length 9 all.value) (omega arith)
