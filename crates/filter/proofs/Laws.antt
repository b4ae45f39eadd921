-- Laws of filters that callers cite.
-- Assumes nothing.
use Rattle.std.proofs.Common.{Bool, true, false, not, ◌&&◌, ⊎_elim, ◌≡◌, refl, sym, ap, ap₂, ◌∙◌, ℕ, zero, suc, ◌+◌, ◌-◌, ◌%◌, ◌^◌, ◌≤◌, ◌<◌, zero-le, mod-lt, mod-eq_of_lt, arith}
use Rattle.std.proofs.Common.{leb-true, ltb-true, ltb-false, lt-ltb, le-ltb, le-leb, ne_eqb, leb, ltb, eqb, ◌||◌}
use native.Mathlib.Nat.{mod_self, mod-add-mod}
use borrow.Author.Tests.{lt-leb, not-false}
use Rattle.memory.specs.Search.{pick}
use Rattle.memory.specs.Integers.{at_most, less_than, rank}
use Rattle.memory.proofs.IntegerLaws.{rank_at_most, rank_less}
use Rattle.memory.proofs.Search.{any_false, below_suc}
use Rattle.memory.proofs.Tests.{and_split, true_or_false, lt_or_le, eq_or_ne}
use Rattle.filter.specs.declared.Filter.{Filter}
use Rattle.filter.specs.declared.Filter.TheVariants.{Always, Never, MaskedNewEqualsX, MaskedNewDiffersX, NewIsEqual, NewIsDifferent, MaskedNewEqualsMaskedOld}
use Rattle.filter.specs.declared.Filter.TheVariants.{MaskedNewDiffersMaskedOld, NewIsWithin, NewIsOutside, NewIsGreater, NewIsLessOrEqual, NewIsLess}
use Rattle.filter.specs.declared.Filter.TheVariants.{NewIsGreaterOrEqual, OneEveryN}
use Rattle.filter.specs.Filters.{passes, greatest_count, next_count, CountFits, constants, filter_of, filter_right}

-- ---- the count

pub next_low : (f : Filter) (n : ℕ) → next_count f n ≤ greatest_count f
unfolding next_count
next_low f n =
    ⊎_elim
    (λ (e : ltb n (greatest_count f) ≡ true). rw e (omega (arith, ltb-true n (greatest_count f) e)))
    (λ (e : ltb n (greatest_count f) ≡ false). rw e zero-le)
    (true_or_false (ltb n (greatest_count f)))

constants_count : (f : Filter) (c d : ℕ) → constants f c d ≡ true → greatest_count f < 256
unfolding greatest_count
constants_count Always c d e = omega arith
constants_count Never c d e = omega arith
constants_count (MaskedNewEqualsX mask x) c d e = omega arith
constants_count (MaskedNewDiffersX mask x) c d e = omega arith
constants_count NewIsEqual c d e = omega arith
constants_count NewIsDifferent c d e = omega arith
constants_count (MaskedNewEqualsMaskedOld mask) c d e = omega arith
constants_count (MaskedNewDiffersMaskedOld mask) c d e = omega arith
constants_count (NewIsWithin min max) c d e = omega arith
constants_count (NewIsOutside min max) c d e = omega arith
constants_count NewIsGreater c d e = omega arith
constants_count NewIsLessOrEqual c d e = omega arith
constants_count NewIsLess c d e = omega arith
constants_count NewIsGreaterOrEqual c d e = omega arith
constants_count (OneEveryN period offset) c d e =
    let most = leb-true period 255 (and_split (leb 1 period) (leb period 255) (and_split (leb 1 period && leb period 255) (ltb offset period) e).0).1 in
    omega (arith, most)

-- a byte holds each count of a right record
pub right_count : (number c d : ℕ) → filter_right number c d ≡ true → greatest_count (filter_of number c d) < 256
unfolding filter_right
right_count number c d e = constants_count (filter_of number c d) c d (and_split (leb number 14) _ e).1

-- a filter that is not the one with a period has none
pub no_period : (f : Filter) → ((p o : ℕ) → f ≡ OneEveryN p o → ⊥) → 0 ≡ greatest_count f
unfolding greatest_count
no_period Always e = refl
no_period Never e = refl
no_period (MaskedNewEqualsX mask x) e = refl
no_period (MaskedNewDiffersX mask x) e = refl
no_period NewIsEqual e = refl
no_period NewIsDifferent e = refl
no_period (MaskedNewEqualsMaskedOld mask) e = refl
no_period (MaskedNewDiffersMaskedOld mask) e = refl
no_period (NewIsWithin min max) e = refl
no_period (NewIsOutside min max) e = refl
no_period NewIsGreater e = refl
no_period NewIsLessOrEqual e = refl
no_period NewIsLess e = refl
no_period NewIsGreaterOrEqual e = refl
no_period (OneEveryN period offset) e = absurd (e period offset refl)

-- by the period p of the code, 1 with another filter
module _ (f : Filter) (n p : ℕ) (period : p - 1 ≡ greatest_count f) where
  pub next_goes : n + 1 < p → n + 1 ≡ next_count f n
  unfolding next_count
  next_goes h = rw (lt-ltb n (greatest_count f) (omega (arith, period, h)))

  pub next_returns : p ≤ n + 1 → 0 ≡ next_count f n
  unfolding next_count
  next_returns h = rw (le-ltb n (greatest_count f) (omega (arith, period, h)))

-- a count in its range is its own remainder
pub own_remainder : (p n : ℕ) → n ≤ p - 1 → n % p ≡ n
own_remainder zero n h = let e : n ≡ 0 = omega (arith, h) in rw e
own_remainder (suc p) n h = let below : n < suc p = omega (arith, h) in mod-eq_of_lt below

pub every_passes : (signed : Bool) (f : Filter) (p d new old n : ℕ) → f ≡ OneEveryN p d → CountFits f n → eqb n d ≡ passes signed f new old n
unfolding passes greatest_count
every_passes signed f p d new old n e fits = let low : n ≤ p - 1 = rw e at fits.low in rw (e, own_remainder p n low)

-- ---- values by their ranks, as the code compares them

module _ (signed : Bool) {r : ℕ} (new : ℕ) (rank_new : r ≡ rank signed new) (fits : new < 2 ^ 32) where
  module _ {q : ℕ} (old : ℕ) (rank_old : q ≡ rank signed old) (also : old < 2 ^ 32) where
    pub above_old : ltb q r ≡ less_than signed old new
    above_old = rw (rank_new, rank_old) (rank_less signed old new also fits)

    pub at_most_old : leb r q ≡ at_most signed new old
    at_most_old = rw (rank_new, rank_old) (rank_at_most signed new old fits also)

    pub below_old : ltb r q ≡ less_than signed new old
    below_old = rw (rank_new, rank_old) (rank_less signed new old fits also)

    pub at_least_old : leb q r ≡ at_most signed old new
    at_least_old = rw (rank_new, rank_old) (rank_at_most signed old new also fits)

  pub between : {p q : ℕ} (min max : ℕ) → p ≡ rank signed min → min < 2 ^ 32 → q ≡ rank signed max → max < 2 ^ 32
      → (leb p r && leb r q) ≡ (at_most signed min new && at_most signed new max)
  between min max rank-min low rank-max high =
      rw (rank_new, rank-min, rank-max) (ap₂ ◌&&◌ (rank_at_most signed min new low fits) (rank_at_most signed new max fits high))

-- ---- the filter with a period

-- the count is the number of filterings, modulo the period
pub next_in_turn : (p d n : ℕ) → 0 < p → next_count (OneEveryN p d) (n % p) ≡ (n + 1) % p
unfolding next_count greatest_count
next_in_turn p d n some =
    ⊎_elim
    (λ (e : ltb (n % p) (p - 1) ≡ true).
    let below : n % p + 1 < p = omega (arith, ltb-true (n % p) (p - 1) e) in
    rw e (sym (sym (mod-add-mod n p 1) ∙ mod-eq_of_lt below)))
    (λ (e : ltb (n % p) (p - 1) ≡ false).
    let last : n % p + 1 ≡ p = omega (arith, ltb-false (n % p) (p - 1) e, mod-lt n some) in
    rw e (sym (sym (mod-add-mod n p 1) ∙ ap (λ (k : ℕ). k % p) last ∙ mod_self p)))
    (true_or_false (ltb (n % p) (p - 1)))

pub passes_in_turn : (signed : Bool) (p d new old n : ℕ) → 0 < p → passes signed (OneEveryN p d) new old (n % p) ≡ eqb (n % p) d
unfolding passes
passes_in_turn signed p d new old n some = rw (mod-eq_of_lt (mod-lt n some))

pub right_period : (p d : ℕ) → filter_right 14 p d ≡ true → (0 < p) × (d < p)
unfolding filter_right filter_of
right_period p d e =
    let both = and_split (leb 1 p && leb p 255) (ltb d p) e in
    (leb-true 1 p (and_split (leb 1 p) (leb p 255) both.0).0, ltb-true d p both.1)

-- ---- the constants

-- with both constants zero every filter but the one with a period is right
pub no_constants : (number : ℕ) → leb number 13 ≡ filter_right number 0 0
unfolding filter_right filter_of
no_constants number =
    ⊎_elim
    (λ (h : number < 14).
    let each : constants (filter_of number 0 0) 0 0 ≡ true =
    not-false _ (any_false 14 (λ k. not (constants (filter_of k 0 0) 0 0)) refl number h) in
    rw (le-leb number 13 (omega arith), le-leb number 14 (omega arith)) (sym each))
    (λ (h : 14 ≤ number).
    ⊎_elim
    (λ (e : number ≡ 14). rw e)
    (λ (ne : number ≡ 14 → ⊥). rw (lt-leb number 13 (omega arith), lt-leb number 14 (omega arith)))
    (eq_or_ne number 14))
    (lt_or_le number 14)

-- ---- the tests of a record's filter as the code makes them: which numbers have two constants, which have the first alone

abbrev two : ℕ → Bool
two n = eqb n 2 || eqb n 3 || eqb n 8 || eqb n 9

abbrev one : ℕ → Bool
one n = eqb n 6 || eqb n 7

abbrev tests : ℕ → ℕ → ℕ → Bool
tests c d n = pick (two n) true (pick (one n) (eqb d 0) (pick (eqb n 14) (leb 1 c && leb c 255 && ltb d c) (leb n 13 && eqb c 0 && eqb d 0)))

pub by_number : (c d n : ℕ) → filter_right n c d ≡ tests c d n
unfolding filter_right filter_of
by_number c d n = ⊎_elim (each n) high (lt_or_le n 15)
  where
    So : ℕ → Type 0
    So k = filter_right k c d ≡ tests c d k

    each : (k : ℕ) → k < 15 → So k
    each =
        below_suc (below_suc (below_suc (below_suc (below_suc (below_suc (below_suc (below_suc (below_suc (below_suc (below_suc (below_suc (below_suc (below_suc (below_suc
        (λ k h. absurd (omega arith)) refl) refl) refl) refl) refl) refl) refl) refl) refl) refl) refl) refl) refl) refl) refl

    high : 15 ≤ n → So n
    high h =
        let no : (k : ℕ) → k < 15 → eqb n k ≡ false = λ k low. ne_eqb n k (omega arith) in
        rw (
          lt-leb n 14 (omega arith),
          lt-leb n 13 (omega arith),
          no 2 (omega arith),
          no 3 (omega arith),
          no 8 (omega arith),
          no 9 (omega arith),
          no 6 (omega arith),
          no 7 (omega arith),
          no 14 (omega arith),
        )

-- what `passes` has at hand of the filters that compare with the old value or count
pub ruleset old_tests = (above_old, at_most_old, below_old, at_least_old, every_passes)
