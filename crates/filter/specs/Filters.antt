-- Document 01, "Filters", W-203 and W-207: the filters by number, what passes, how the count goes on, and the rules for a filter's constants
-- in a table. Assumes nothing.
use Rattle.std.specs.Prelude.{Bool, true, false, not, ◌&&◌, List, [], ◌∷◌, ℕ, ◌+◌, ◌-◌, ◌%◌, ◌≤◌, ◌<◌, leb, ltb, eqb, get_or}
use Rattle.std.specs.Int.Bits.{bit_and}
use Rattle.memory.specs.Search.{pick}
use Rattle.memory.specs.Integers.{at_most, less_than}
use Rattle.filter.specs.declared.Filter.{Filter}
use Rattle.filter.specs.declared.Filter.TheVariants.{Always, Never, MaskedNewEqualsX, MaskedNewDiffersX, NewIsEqual, NewIsDifferent, MaskedNewEqualsMaskedOld}
use Rattle.filter.specs.declared.Filter.TheVariants.{MaskedNewDiffersMaskedOld, NewIsWithin, NewIsOutside, NewIsGreater, NewIsLessOrEqual, NewIsLess}
use Rattle.filter.specs.declared.Filter.TheVariants.{NewIsGreaterOrEqual, OneEveryN}

-- whether `new` passes, given old and the occurrence n. Filters 8 to 13 compare a signed object's values, and constants, as signed (W-207)
unfoldable pub passes : Bool → Filter → ℕ → ℕ → ℕ → Bool
passes signed Always new old n = true
passes signed Never new old n = false
passes signed (MaskedNewEqualsX mask x) new old n = eqb (bit_and new mask) x
passes signed (MaskedNewDiffersX mask x) new old n = not (eqb (bit_and new mask) x)
passes signed NewIsEqual new old n = eqb new old
passes signed NewIsDifferent new old n = not (eqb new old)
passes signed (MaskedNewEqualsMaskedOld mask) new old n = eqb (bit_and new mask) (bit_and old mask)
passes signed (MaskedNewDiffersMaskedOld mask) new old n = not (eqb (bit_and new mask) (bit_and old mask))
passes signed (NewIsWithin min max) new old n = at_most signed min new && at_most signed new max
passes signed (NewIsOutside min max) new old n = not (at_most signed min new && at_most signed new max)
passes signed NewIsGreater new old n = less_than signed old new
passes signed NewIsLessOrEqual new old n = at_most signed new old
passes signed NewIsLess new old n = less_than signed new old
passes signed NewIsGreaterOrEqual new old n = at_most signed old new
passes signed (OneEveryN period offset) new old n = eqb (n % period) offset

-- ---- W-203: the count of filterings runs from 0 to the period less one and returns to 0; with another filter it stays 0

-- its greatest value
unfoldable pub greatest_count : Filter → ℕ
greatest_count Always = 0
greatest_count Never = 0
greatest_count (MaskedNewEqualsX mask x) = 0
greatest_count (MaskedNewDiffersX mask x) = 0
greatest_count NewIsEqual = 0
greatest_count NewIsDifferent = 0
greatest_count (MaskedNewEqualsMaskedOld mask) = 0
greatest_count (MaskedNewDiffersMaskedOld mask) = 0
greatest_count (NewIsWithin min max) = 0
greatest_count (NewIsOutside min max) = 0
greatest_count NewIsGreater = 0
greatest_count NewIsLessOrEqual = 0
greatest_count NewIsLess = 0
greatest_count NewIsGreaterOrEqual = 0
greatest_count (OneEveryN period offset) = period - 1

-- the count after one more filtering
unfoldable pub next_count : Filter → ℕ → ℕ
next_count f n = pick (ltb n (greatest_count f)) (n + 1) 0

-- a count in its range, whose greatest value a byte holds
pub record CountFits (f : Filter) (n : ℕ) : Type 0 where
  pub low : n ≤ greatest_count f
  pub byte : greatest_count f < 256

-- the filters in the order of their numbers 0..14; c and d are the two constants of a table's record
abbrev pub filters : ℕ → ℕ → List Filter
filters c d =
    Always ∷ Never
    ∷ MaskedNewEqualsX c d ∷ MaskedNewDiffersX c d
    ∷ NewIsEqual ∷ NewIsDifferent
    ∷ MaskedNewEqualsMaskedOld c ∷ MaskedNewDiffersMaskedOld c
    ∷ NewIsWithin c d ∷ NewIsOutside c d
    ∷ NewIsGreater ∷ NewIsLessOrEqual ∷ NewIsLess ∷ NewIsGreaterOrEqual
    ∷ OneEveryN c d ∷ []

unfoldable pub filter_of : ℕ → ℕ → ℕ → Filter
filter_of number c d = get_or (filters c d) number Never

-- a filter's constants: those that it does not use are zero; a period is 1..255, and its offset is below it
abbrev pub constants : Filter → ℕ → ℕ → Bool
constants Always c d = eqb c 0 && eqb d 0
constants Never c d = eqb c 0 && eqb d 0
constants (MaskedNewEqualsX mask x) c d = true
constants (MaskedNewDiffersX mask x) c d = true
constants NewIsEqual c d = eqb c 0 && eqb d 0
constants NewIsDifferent c d = eqb c 0 && eqb d 0
constants (MaskedNewEqualsMaskedOld mask) c d = eqb d 0
constants (MaskedNewDiffersMaskedOld mask) c d = eqb d 0
constants (NewIsWithin min max) c d = true
constants (NewIsOutside min max) c d = true
constants NewIsGreater c d = eqb c 0 && eqb d 0
constants NewIsLessOrEqual c d = eqb c 0 && eqb d 0
constants NewIsLess c d = eqb c 0 && eqb d 0
constants NewIsGreaterOrEqual c d = eqb c 0 && eqb d 0
constants (OneEveryN period offset) c d = leb 1 period && leb period 255 && ltb offset period

-- a record's filter: its number is 0..14 and its constants are right
unfoldable pub filter_right : ℕ → ℕ → ℕ → Bool
filter_right number c d = leb number 14 && constants (filter_of number c d) c d
