-- Texts that are put one behind the other into a buffer. The laws ask for plain values, so that a search finds them.
-- Assumes nothing.
use Rattle.std.proofs.Common.{◌≡◌, ℕ, suc, ◌+◌, ◌/◌, ◌%◌, ◌^◌, ◌<◌, ◌≤◌, List, [], ◌∷◌, ◌++◌, length, set, refl, arith, length-append}
use lib.Seq.{sets, length-sets}
use Rattle.memory.specs.Texts.{digit_of, decimal, number_field, Put}
use Rattle.memory.proofs.Decimals.{decimal_one, decimal_two, decimal_by_two, decimal_length}

sets_append : (a b m : List ℕ) (at : ℕ) → sets m at (a ++ b) ≡ sets (sets m at a) (at + length a) b
sets_append [] b m at = let e : at + length {A = ℕ} [] ≡ at = omega arith in rw e
sets_append (x ∷ a) b m at =
    let e : at + length (x ∷ a) ≡ suc at + length a = omega arith in
    rw e (sets_append a b (set m at x) (suc at))

-- ---- one text behind the other

pub put_append : {at e f : ℕ} {a b m n p : List ℕ} → Put at a m n e → Put e b n p f → Put at (a ++ b) m p f
put_append {at} {e} {f} {a} {b} {m} {n} {p} first second =
    record {
      stored = rw (sets_append a b m at, ← first.stored, ← first.behind) second.stored;
      behind = omega (arith, length-append a b, first.behind, second.behind);
    }

pub put_none : (at : ℕ) (m : List ℕ) → Put at [] m m at
put_none at m = record { stored = refl; behind = omega arith }

pub put_one : (at b : ℕ) (m : List ℕ) → Put at (b ∷ []) m (set m at b) (at + 1)
put_one at b m = record { stored = refl; behind = refl }

pub put_length : {at e : ℕ} {a m n : List ℕ} → Put at a m n e → length n ≡ length m
put_length {at} {a = a} {m = m} put = rw put.stored (length-sets m at a)

-- the same text, and the same place behind it
pub put_as : {at e f : ℕ} {a b m n : List ℕ} → Put at a m n e → a ≡ b → e ≡ f → Put at b m n f
put_as put same end = rw (← same, ← end) put

-- a byte, and a text behind it
pub put_byte : {at b e : ℕ} {a m n : List ℕ} → Put (at + 1) a (set m at b) n e → Put at (b ∷ a) m n e
put_byte {at} {b} {m = m} rest = put_append (put_one at b m) rest

-- two bytes
pub put_two : (at a b : ℕ) (m : List ℕ) → Put at (a ∷ b ∷ []) m (set (set m at a) (at + 1) b) (at + 2)
put_two at a b m = put_as (put_byte (put_one (at + 1) b (set m at a))) refl (omega arith)

-- ---- decimals

module _ (n : ℕ) (low : n < 10) where
  pub put_decimal_one : {at e : ℕ} {m p : List ℕ} → Put at (digit_of n ∷ []) m p e → Put at (decimal n) m p e
  put_decimal_one put = rw (decimal_one n low) put

  pub room_for_one : (at : ℕ) (m : List ℕ) → at + length (decimal n) ≤ length m → at < length m
  room_for_one at m room = omega (arith, rw (decimal_one n low) at room)

module _ (n : ℕ) (high : 10 ≤ n) (low : n < 100) where
  pub put_decimal_two : {at e : ℕ} {m p : List ℕ} → Put at (digit_of (n / 10) ∷ digit_of (n % 10) ∷ []) m p e → Put at (decimal n) m p e
  put_decimal_two put = rw (decimal_two n high low) put

  pub room_for_two : (at : ℕ) (m : List ℕ) → at + length (decimal n) ≤ length m → at + 2 ≤ length m
  room_for_two at m room = omega (arith, rw (decimal_two n high low) at room)

module _ (n : ℕ) (fits : n < 2 ^ 64) (high : 100 ≤ n) where
  pub put_decimal_more : {at e f : ℕ} {m p q : List ℕ} → Put at (decimal (n / 100)) m p e
      → Put e (digit_of (n % 100 / 10) ∷ digit_of (n % 100 % 10) ∷ []) p q f → Put at (decimal n) m q f
  put_decimal_more front last = rw (decimal_by_two n high (omega (arith, fits))) (put_append front last)

  front_length : length (decimal n) ≡ length (decimal (n / 100)) + 2
  front_length = rw (decimal_by_two n high (omega (arith, fits)), length-append)

  pub room_for_front : (at : ℕ) (m : List ℕ) → at + length (decimal n) ≤ length m → at + length (decimal (n / 100)) ≤ length m
  room_for_front at m room = omega (arith, front_length)

  pub room_for_last : {at e : ℕ} {m p : List ℕ} → at + length (decimal n) ≤ length m → Put at (decimal (n / 100)) m p e → e + 2 ≤ length p
  room_for_last room front = omega (arith, front_length, front.behind, put_length front)

-- a blank and at most 20 digits
pub number_end : (n : ℕ) {at e : ℕ} {m p : List ℕ} → Put at (number_field n) m p e → e ≤ at + 21
number_end n put = omega (arith, put.behind, decimal_length n)
