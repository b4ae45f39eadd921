-- Laws of values that are signed or not: which integer a value means, that ranks stand in the order of the integers, and the text of a value.
-- Assumes nothing.
use Rattle.std.proofs.Common.{◌≡◌, ℕ, suc, ◌+◌, ◌-◌, ◌^◌, ◌<◌, ◌≤◌, Bool, true, false, not, ltb, leb, ◌⊎◌, List, ◌∷◌, length, set, ℤ, pos, negsuc, sym, refl, ap, ◌∙◌, inl, inr}
use Rattle.std.proofs.Common.{⊎_elim, arith, le-ltb, lt-ltb, le-leb, leb-false, leb-true}
use borrow.Author.Tests.{lt-leb}
use lib.Signed.{le_z, lt_z}
use Rattle.memory.specs.Texts.{Put, blank, decimal, number_field}
use Rattle.memory.specs.Integers.{is_negative, integer, at_most, less_than, rank, minus, integer_text, integer_field}
use Rattle.memory.proofs.Tests.{lt_or_le, true_or_false}
use Rattle.memory.proofs.Decimals.{decimal_within}
use Rattle.memory.proofs.Puts.{put_byte}

-- ---- the integer

pub integer_low : (signed : Bool) (v : ℕ) → v < 2 ^ 31 → integer signed v ≡ pos v
unfolding integer
integer_low true v low = rw (lt-leb (2 ^ 31) v low)
integer_low false v low = refl

pub integer_high : (v : ℕ) → 2 ^ 31 ≤ v → v < 2 ^ 32 → integer true v ≡ negsuc (2 ^ 32 - suc v)
unfolding integer
integer_high v high low = rw (le-leb (2 ^ 31) v high, lt-ltb v (2 ^ 32) low)

pub integer_plain : (signed : Bool) (v : ℕ) → is_negative signed v ≡ false → integer signed v ≡ pos v
unfolding integer
integer_plain signed v e = rw e

pub integer_negative : (signed : Bool) (v : ℕ) → is_negative signed v ≡ true → v < 2 ^ 32 → integer signed v ≡ negsuc (2 ^ 32 - suc v)
unfolding integer
integer_negative signed v e low = rw (e, lt-ltb v (2 ^ 32) low)

-- ---- the order

-- two tests of order that hold for the same reason
leb_as : (a b c d : ℕ) → (a ≤ b → c ≤ d) → (b < a → d < c) → leb a b ≡ leb c d
leb_as a b c d same other =
    ⊎_elim
    (λ (h : b < a). rw (lt-leb a b h, lt-leb c d (other h)))
    (λ (h : a ≤ b). rw (le-leb a b h, le-leb c d (same h)))
    (lt_or_le b a)

module _ (v : ℕ) where
  rank_low : v < 2 ^ 31 → rank true v ≡ v + 2 ^ 31
  unfolding rank
  rank_low low = omega (arith, low)

  rank_high : 2 ^ 31 ≤ v → v < 2 ^ 32 → rank true v ≡ v - 2 ^ 31
  unfolding rank
  rank_high high low = omega (arith, high, low)

-- ranks stand in the order of the integers
pub rank_at_most : (signed : Bool) (a b : ℕ) → a < 2 ^ 32 → b < 2 ^ 32 → leb (rank signed a) (rank signed b) ≡ at_most signed a b
unfolding at_most
rank_at_most false a b fits also = unfold rank integer in refl
rank_at_most true a b fits also =
    ⊎_elim
    (λ (h : a < 2 ^ 31).
    ⊎_elim
    (λ (k : b < 2 ^ 31). rw (rank_low a h, rank_low b k, integer_low true a h, integer_low true b k) (leb_as (a + 2 ^ 31) (b + 2 ^ 31) a b (λ x. omega arith) (λ x. omega arith)))
    (λ (k : 2 ^ 31 ≤ b). rw (rank_low a h, rank_high b k also, integer_low true a h, integer_high b k also) (lt-leb (a + 2 ^ 31) (b - 2 ^ 31) (omega arith)))
    (lt_or_le b (2 ^ 31)))
    (λ (h : 2 ^ 31 ≤ a).
    ⊎_elim
    (λ (k : b < 2 ^ 31). rw (rank_high a h fits, rank_low b k, integer_high a h fits, integer_low true b k) (le-leb (a - 2 ^ 31) (b + 2 ^ 31) (omega arith)))
    (λ (k : 2 ^ 31 ≤ b). rw (rank_high a h fits, rank_high b k also, integer_high a h fits, integer_high b k also)
    (leb_as (a - 2 ^ 31) (b - 2 ^ 31) (2 ^ 32 - suc b) (2 ^ 32 - suc a) (λ x. omega arith) (λ x. omega arith)))
    (lt_or_le b (2 ^ 31)))
    (lt_or_le a (2 ^ 31))

not_leb : (a b : ℕ) → not (leb b a) ≡ ltb a b
not_leb a b =
    ⊎_elim
    (λ (h : a < b). rw (lt-leb b a h, lt-ltb a b h))
    (λ (h : b ≤ a). rw (le-leb b a h, le-ltb a b h))
    (lt_or_le a b)

not_le_z : (x y : ℤ) → not (le_z y x) ≡ lt_z x y
not_le_z (pos a) (pos b) = not_leb a b
not_le_z (pos a) (negsuc b) = refl
not_le_z (negsuc a) (pos b) = refl
not_le_z (negsuc a) (negsuc b) = not_leb b a

-- the order is total
pub not_at_most : (signed : Bool) (a b : ℕ) → not (at_most signed b a) ≡ less_than signed a b
unfolding at_most less_than
not_at_most signed a b = not_le_z (integer signed a) (integer signed b)

pub rank_less : (signed : Bool) (a b : ℕ) → a < 2 ^ 32 → b < 2 ^ 32 → ltb (rank signed a) (rank signed b) ≡ less_than signed a b
rank_less signed a b fits also =
    sym (not_leb (rank signed a) (rank signed b)) ∙ ap not (rank_at_most signed b a also fits) ∙ not_at_most signed a b

le_z_itself : (x : ℤ) → le_z x x ≡ true
le_z_itself (pos a) = le-leb a a (omega arith)
le_z_itself (negsuc a) = le-leb a a (omega arith)

le_z_trans : (x y z : ℤ) → le_z x y ≡ true → le_z y z ≡ true → le_z x z ≡ true
le_z_trans (pos a) (pos b) (pos c) h k = le-leb a c (omega (arith, leb-true a b h, leb-true b c k))
le_z_trans (pos a) (pos b) (negsuc c) h k = k
le_z_trans (pos a) (negsuc b) z h k = let clash : false ≡ true = h in cc
le_z_trans (negsuc a) y (pos c) h k = refl
le_z_trans (negsuc a) (pos b) (negsuc c) h k = let clash : false ≡ true = k in cc
le_z_trans (negsuc a) (negsuc b) (negsuc c) h k = le-leb c a (omega (arith, leb-true b a h, leb-true c b k))

le_z_other : (x y : ℤ) → le_z y x ≡ false → le_z x y ≡ true
le_z_other (pos a) (pos b) h = le-leb a b (omega (arith, leb-false b a h))
le_z_other (pos a) (negsuc b) h = sym h
le_z_other (negsuc a) (pos b) h = refl
le_z_other (negsuc a) (negsuc b) h = le-leb b a (omega (arith, leb-false a b h))

rank_same : (signed : Bool) (a b : ℕ) → a < 2 ^ 32 → b < 2 ^ 32 → rank signed a ≡ rank signed b → a ≡ b
unfolding rank
rank_same true a b fits also e = omega (arith, fits, also, e)
rank_same false a b fits also e = e

-- the order's laws; of two values of 32 bits that are each at most the other there is one
module _ (signed : Bool) where
  pub at_most_itself : (a : ℕ) → at_most signed a a ≡ true
  unfolding at_most
  at_most_itself a = le_z_itself (integer signed a)

  pub at_most_trans : (a b c : ℕ) → at_most signed a b ≡ true → at_most signed b c ≡ true → at_most signed a c ≡ true
  unfolding at_most
  at_most_trans a b c = le_z_trans (integer signed a) (integer signed b) (integer signed c)

  pub at_most_same : (a b : ℕ) → a < 2 ^ 32 → b < 2 ^ 32 → at_most signed a b ≡ true → at_most signed b a ≡ true → a ≡ b
  at_most_same a b fits also h k =
      let low = leb-true (rank signed a) (rank signed b) (rank_at_most signed a b fits also ∙ h) in
      let high = leb-true (rank signed b) (rank signed a) (rank_at_most signed b a also fits ∙ k) in
      rank_same signed a b fits also (omega (arith, low, high))

  at_most_other : (a b : ℕ) → at_most signed b a ≡ false → at_most signed a b ≡ true
  unfolding at_most
  at_most_other a b = le_z_other (integer signed a) (integer signed b)

  pub less_or_not : (a b : ℕ) → ((at_most signed a b ≡ true) × (less_than signed a b ≡ true)) ⊎ ((at_most signed b a ≡ true) × (less_than signed a b ≡ false))
  less_or_not a b =
      ⊎_elim
      (λ (e : at_most signed b a ≡ true). inr (e, sym (not_at_most signed a b) ∙ ap not e))
      (λ (e : at_most signed b a ≡ false). inl (at_most_other a b e, sym (not_at_most signed a b) ∙ ap not e))
      (true_or_false (at_most signed b a))

-- ---- the text

module _ (signed : Bool) (v : ℕ) (e : is_negative signed v ≡ true) (fits : v < 2 ^ 32) where
  pub negative_text : integer_text (integer signed v) ≡ minus ∷ decimal (2 ^ 32 - v)
  negative_text =
      rw (integer_negative signed v e fits)
      (ap (λ (n : ℕ). minus ∷ decimal n) (let back : suc (2 ^ 32 - suc v) ≡ 2 ^ 32 - v = omega (arith, fits) in back))

  pub put_negative : {at e : ℕ} {m n : List ℕ} → Put (at + 2) (decimal (2 ^ 32 - v)) (set (set m at blank) (at + 1) minus) n e
      → Put at (integer_field (integer signed v)) m n e
  put_negative {at} {m = m} put = rw negative_text (put_byte (put_byte (let next : at + 1 + 1 ≡ at + 2 = omega arith in rw next put)))

  pub room_for_negative : (at : ℕ) (m : List ℕ) → at + length (integer_field (integer signed v)) ≤ length m → at + 2 + length (decimal (2 ^ 32 - v)) ≤ length m
  room_for_negative at m room = omega (arith, ap length negative_text)

module _ (signed : Bool) (v : ℕ) (e : is_negative signed v ≡ false) where
  pub plain_text : integer_text (integer signed v) ≡ decimal v
  plain_text = rw (integer_plain signed v e)

  pub put_plain : {at e : ℕ} {m n : List ℕ} → Put at (number_field v) m n e → Put at (integer_field (integer signed v)) m n e
  put_plain put = rw plain_text put

  pub room_for_plain : (at : ℕ) (m : List ℕ) → at + length (integer_field (integer signed v)) ≤ length m → at + 1 + length (decimal v) ≤ length m
  room_for_plain at m room = omega (arith, ap length plain_text)

-- a blank, a minus and ten digits at the most
pub integer_length : (signed : Bool) (v : ℕ) → v < 2 ^ 32 → length (integer_field (integer signed v)) ≤ 12
integer_length signed v fits =
    ⊎_elim
    (λ (e : is_negative signed v ≡ true). omega (arith, ap length (negative_text signed v e fits), decimal_within 9 (2 ^ 32 - v) (omega (arith, fits))))
    (λ (e : is_negative signed v ≡ false). omega (arith, ap length (plain_text signed v e), decimal_within 9 v (omega (arith, fits))))
    (true_or_false (is_negative signed v))
