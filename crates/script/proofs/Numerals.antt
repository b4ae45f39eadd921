-- A field reads as a number exactly where it is that number's decimal, and as a negative one exactly where a minus stands before its decimal.
-- Assumes nothing.
use Rattle.std.proofs.Common.{◌≡◌, ℕ, zero, suc, ◌+◌, ◌-◌, ◌*◌, ◌/◌, ◌%◌, ◌^◌, ◌<◌, ◌≤◌, Bool, true, false, not, ◌&&◌, eqb, ltb, leb, List, [], ◌∷◌, ◌++◌, refl, ap, ◌∙◌, ⊎_elim}
use Rattle.std.proofs.Common.{append_assoc, append-nil, arith, ltb-true, lt-ltb, ne_eqb, eqb-true, le-leb, leb-true}
use native.Mathlib.Nat.{pow-succ'}
use borrow.Author.Tests.{eqb-false, not-true}
use lib.Seq.{append_snoc}
use Rattle.memory.proofs.Tests.{lt_or_le, and_split, true_or_false}
use Rattle.memory.proofs.Decimals.{decimal_one, decimal_more}
use Rattle.memory.proofs.IntegerLaws.{negative_text, plain_text}
use Rattle.memory.proofs.Search.{picked}
use Rattle.memory.specs.Integers.{minus, is_negative, integer, integer_text}
use Rattle.memory.specs.Search.{pick}
use Rattle.memory.specs.Texts.{digit_of, decimal}
use Rattle.script.proofs.CharacterLists.{run_last}
use Rattle.script.specs.declared.Numeral.{Numeral}
use Rattle.script.specs.declared.Numeral.TheVariants.{Nothing, Number, Minus, Negative, Wrong}
use Rattle.script.specs.Reading.{is_digit, with_digit, with_minus, numeral_with, numeral_from, numeral}

pub numeral_last : (m : Numeral) (f : List ℕ) (b : ℕ) → numeral_from m (f ++ b ∷ []) ≡ numeral_with (numeral_from m f) b
numeral_last m f b = run_last numeral_with numeral_from (λ a. refl) (λ a c l. refl) m f b

-- ---- numbers, and those behind a minus

abbrev pub sign : Bool → List ℕ
sign false = []
sign true = minus ∷ []

-- before the first digit, and behind the last one
abbrev unsaid : Bool → Numeral
unsaid false = Nothing
unsaid true = Minus

abbrev pub said : Bool → ℕ → Numeral
said false n = Number n
said true n = Negative n

abbrev pub InRange : Bool → ℕ → Type 0
InRange false n = n < 2 ^ 32
InRange true n = (0 < n) × (n ≤ 2 ^ 31)

range_fits : (negative : Bool) (n : ℕ) → InRange negative n → n < 2 ^ 32
range_fits false n fits = fits
range_fits true n fits = omega (arith, fits.1)

tenth_in_range : (negative : Bool) (n : ℕ) → 10 ≤ n → InRange negative n → InRange negative (n / 10)
tenth_in_range false n high fits = omega arith
tenth_in_range true n high fits = (omega arith, omega (arith, fits.1))

-- ---- a decimal reads as its number

with_digit_lem : (n : Numeral) (d : ℕ) → d < 10 → numeral_with n (digit_of d) ≡ with_digit n d
with_digit_lem n d low =
    let value : digit_of d - 48 ≡ d = omega arith in
    rw (le-leb 48 (digit_of d) (omega arith), le-leb (digit_of d) 57 (omega arith), value)

digit_first : (negative : Bool) (d : ℕ) → InRange negative d → with_digit (unsaid negative) d ≡ said negative d
digit_first false d fits = refl
digit_first true d fits = rw (ne_eqb d 0 (omega (arith, fits.0)))

digit_more : (negative : Bool) (m d : ℕ) → 0 < m → InRange negative (10 * m + d) → with_digit (said negative m) d ≡ said negative (10 * m + d)
digit_more false m d some fits = rw (ne_eqb m 0 (omega arith), lt-ltb (10 * m + d) (2 ^ 32) fits)
digit_more true m d some fits = rw (le-leb (10 * m + d) (2 ^ 31) fits.1)

module _ (negative : Bool) where
  abbrev Reads : ℕ → Type 0
  Reads n = numeral_from (unsaid negative) (decimal n) ≡ said negative n

  decimal_first : (n : ℕ) → InRange negative n → n < 10 → Reads n
  decimal_first n fits low = rw (decimal_one n low) (with_digit_lem (unsaid negative) n low ∙ digit_first negative n fits)

  -- one digit more
  decimal_last : (n : ℕ) → 10 ≤ n → InRange negative n → Reads (n / 10) → Reads n
  decimal_last n high fits tenth =
      let low : n < 2 ^ 32 = range_fits negative n fits in
      let sum : 10 * (n / 10) + n % 10 ≡ n = omega arith in
      rw (decimal_more n high (omega arith), numeral_last (unsaid negative) (decimal (n / 10)) (digit_of (n % 10)), tenth)
      (with_digit_lem (said negative (n / 10)) (n % 10) (omega arith) ∙ digit_more negative (n / 10) (n % 10) (omega arith) (rw sum fits)
      ∙ ap (said negative) sum)

  decimal_from : (k n : ℕ) → n < 10 ^ suc k → InRange negative n → Reads n
  decimal_from zero n h fits = decimal_first n fits h
  decimal_from (suc k) n h fits =
      ⊎_elim
      (decimal_first n fits)
      (λ (high : 10 ≤ n).
      decimal_last n high fits (decimal_from k (n / 10) (omega (arith, pow-succ' 10 (suc k))) (tenth_in_range negative n high fits)))
      (lt_or_le n 10)

pub decimal_reads : (negative : Bool) (n : ℕ) → InRange negative n → numeral (sign negative ++ decimal n) ≡ said negative n
decimal_reads false n fits = decimal_from false 9 n (omega arith) fits
decimal_reads true n fits = decimal_from true 9 n (omega (arith, fits.1)) fits

-- ---- what reads as a number is its decimal

pub record IsDecimal (negative : Bool) (f : List ℕ) (n : ℕ) : Type 0 where
  pub spelt : f ≡ sign negative ++ decimal n
  pub fits : InRange negative n

-- what a field is like, by what it reads as
abbrev Spelt : List ℕ → Numeral → Type 0
Spelt f Nothing = f ≡ []
Spelt f (Number n) = IsDecimal false f n
Spelt f Minus = f ≡ minus ∷ []
Spelt f (Negative n) = IsDecimal true f n
Spelt f Wrong = Unit {0}

first_digit : (negative : Bool) (f : List ℕ) (d : ℕ) → d < 10 → InRange negative d → f ≡ sign negative → IsDecimal negative (f ++ digit_of d ∷ []) d
first_digit negative f d low fits e = record { spelt = rw (e, decimal_one d low); fits = fits }

next_digit : (negative : Bool) (f : List ℕ) (m d : ℕ) → d < 10 → 0 < m → InRange negative (10 * m + d) → IsDecimal negative f m
    → IsDecimal negative (f ++ digit_of d ∷ []) (10 * m + d)
next_digit negative f m d low some fits is =
    let small : 10 * m + d < 2 ^ 32 = range_fits negative (10 * m + d) fits in
    let tenth : (10 * m + d) / 10 ≡ m = omega arith in
    let last : (10 * m + d) % 10 ≡ d = omega arith in
    let more : decimal (10 * m + d) ≡ decimal m ++ digit_of d ∷ [] = rw (tenth, last) at (decimal_more (10 * m + d) (omega arith) (omega arith)) in
    record { spelt = rw (is.spelt, more) (append_assoc (sign negative) (decimal m) (digit_of d ∷ [])); fits = fits }

module _ (f : List ℕ) where
  spelt_digit : (m : Numeral) (d : ℕ) → d < 10 → Spelt f m → Spelt (f ++ digit_of d ∷ []) (with_digit m d)
  spelt_digit Nothing d low is = first_digit false f d low (omega arith) is
  spelt_digit (Number m) d low is =
      picked (Spelt (f ++ digit_of d ∷ [])) (not (eqb m 0) && ltb (10 * m + d) (2 ^ 32)) (Number (10 * m + d)) Wrong
      (λ t.
      let both = and_split (not (eqb m 0)) (ltb (10 * m + d) (2 ^ 32)) t in
      let some : m ≡ 0 → ⊥ = eqb-false m 0 (not-true (eqb m 0) both.0) in
      next_digit false f m d low (omega arith) (ltb-true (10 * m + d) (2 ^ 32) both.1) is)
      (λ t. tt)
  spelt_digit Minus d low is =
      picked (Spelt (f ++ digit_of d ∷ [])) (eqb d 0) Wrong (Negative d)
      (λ t. tt)
      (λ t. let some : d ≡ 0 → ⊥ = eqb-false d 0 t in first_digit true f d low (omega arith, omega arith) is)
  spelt_digit (Negative m) d low is =
      let some : 0 < m = is.fits.0 in
      picked (Spelt (f ++ digit_of d ∷ [])) (leb (10 * m + d) (2 ^ 31)) (Negative (10 * m + d)) Wrong
      (λ t. next_digit true f m d low some (omega arith, leb-true (10 * m + d) (2 ^ 31) t) is)
      (λ t. tt)
  spelt_digit Wrong d low is = tt

  spelt_minus : (m : Numeral) → Spelt f m → Spelt (f ++ minus ∷ []) (with_minus m)
  spelt_minus Nothing is = rw is
  spelt_minus (Number m) is = tt
  spelt_minus Minus is = tt
  spelt_minus (Negative m) is = tt
  spelt_minus Wrong is = tt

  spelt_more : (m : Numeral) (b : ℕ) → Spelt f m → Spelt (f ++ b ∷ []) (numeral_with m b)
  spelt_more m b is =
      picked (Spelt (f ++ b ∷ [])) (is_digit b) (with_digit m (b - 48)) (pick (eqb b minus) (with_minus m) Wrong)
      (λ t.
      let both = and_split (leb 48 b) (leb b 57) t in
      let low = leb-true 48 b both.0 in
      let high = leb-true b 57 both.1 in
      let digit : digit_of (b - 48) ≡ b = omega arith in
      rw digit at (spelt_digit m (b - 48) (omega arith) is))
      (λ t. picked (Spelt (f ++ b ∷ [])) (eqb b minus) (with_minus m) Wrong (λ u. rw (eqb-true b minus u) (spelt_minus m is)) (λ u. tt))

spelt_from : (f g : List ℕ) (m : Numeral) → Spelt f m → Spelt (f ++ g) (numeral_from m g)
spelt_from f [] m is = rw (append-nil f) is
spelt_from f (b ∷ g) m is = rw (append_snoc f b g) at (spelt_from (f ++ b ∷ []) g (numeral_with m b) (spelt_more f m b is))

pub number_reads : (negative : Bool) (n : ℕ) (f : List ℕ) → numeral f ≡ said negative n → IsDecimal negative f n
number_reads false n f e = rw e at (spelt_from [] f Nothing refl)
number_reads true n f e = rw e at (spelt_from [] f Nothing refl)

-- ---- the text of a value, signed or not

pub value_reads : (signed : Bool) (v : ℕ) → v < 2 ^ 32
    → numeral (integer_text (integer signed v)) ≡ pick (is_negative signed v) (Negative (2 ^ 32 - v)) (Number v)
value_reads signed v fits =
    ⊎_elim
    (λ (t : is_negative signed v ≡ true).
    let high : 2 ^ 31 ≤ v = leb-true (2 ^ 31) v (and_split signed (leb (2 ^ 31) v) t).1 in
    rw (negative_text signed v t fits, t) (decimal_reads true (2 ^ 32 - v) (omega arith, omega arith)))
    (λ (t : is_negative signed v ≡ false). rw (plain_text signed v t, t) (decimal_reads false v fits))
    (true_or_false (is_negative signed v))

-- the value that is so far below 0
pub negative_value : (below : ℕ) → InRange true below → integer_text (integer true ((2 ^ 32 - below) % 2 ^ 32)) ≡ minus ∷ decimal below
negative_value below fits =
    let v : ℕ = (2 ^ 32 - below) % 2 ^ 32 in
    let some : 0 < below = fits.0 in
    let most : below ≤ 2 ^ 31 = fits.1 in
    let back : 2 ^ 32 - v ≡ below = omega arith in
    rw back at (negative_text true v (le-leb (2 ^ 31) v (omega arith)) (omega arith))
