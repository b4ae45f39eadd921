-- The fields of a line are its words between blanks, and joined by blanks they are the line.
-- Assumes nothing.
use Rattle.std.proofs.Common.{◌≡◌, ℕ, zero, suc, ◌/◌, ◌%◌, ◌<◌, ◌≤◌, Bool, true, false, not, ◌&&◌, eqb, List, [], ◌∷◌, ◌++◌, ℤ, pos, negsuc, sym, refl, ap, ◌∙◌, ⊎_elim}
use Rattle.std.proofs.Common.{append_assoc, append-nil, arith, le-ltb, lt-ltb, ne_eqb, eqb-true}
use borrow.Author.Tests.{not-true}
use lib.Seq.{append_snoc}
use Rattle.memory.specs.Integers.{integer_text}
use Rattle.memory.specs.Texts.{blank, digit_of, decimal_digits, decimal}
use Rattle.memory.proofs.Tests.{lt_or_le, and_split, true_or_false}
use Rattle.script.specs.Reading.{Fields, one, two, three, four, too_many, into, fields_from, fields_of}
use Rattle.script.specs.Text.{hex_digit_of, hex}

-- ---- words: no character is a blank

abbrev pub is_word : List ℕ → Bool
is_word [] = true
is_word (b ∷ w) = not (eqb b blank) && is_word w

word_append : (v w : List ℕ) → is_word v ≡ true → is_word w ≡ true → is_word (v ++ w) ≡ true
word_append [] w first second = second
word_append (b ∷ v) w first second =
    let both = and_split (not (eqb b blank)) (is_word v) first in
    rw both.0 (word_append v w both.1 second)

-- digits stand above the blank
above_blank : (b : ℕ) → 48 ≤ b → not (eqb b blank) ≡ true
above_blank b high = rw (ne_eqb b blank (omega arith))

digits_word : (k n : ℕ) → is_word (decimal_digits k n) ≡ true
digits_word zero n = refl
digits_word (suc k) n =
    ⊎_elim
    (λ (low : n < 10). rw (lt-ltb n 10 low, above_blank (digit_of n) (omega arith)))
    (λ (high : 10 ≤ n).
    rw (le-ltb n 10 high)
    (word_append (decimal_digits k (n / 10)) (digit_of (n % 10) ∷ []) (digits_word k (n / 10)) (rw (above_blank (digit_of (n % 10)) (omega arith)))))
    (lt_or_le n 10)

pub decimal_word : (n : ℕ) → is_word (decimal n) ≡ true
unfolding decimal
decimal_word n = digits_word 20 n

pub integer_word : (z : ℤ) → is_word (integer_text z) ≡ true
integer_word (pos n) = decimal_word n
integer_word (negsuc n) = decimal_word (suc n)

hex_digit_high : (d : ℕ) → 48 ≤ hex_digit_of d
hex_digit_high d =
    ⊎_elim (λ (low : d < 10). rw (lt-ltb d 10 low) (omega arith)) (λ (high : 10 ≤ d). rw (le-ltb d 10 high) (omega arith)) (lt_or_le d 10)

pub hex_word : (bs : List ℕ) → is_word (hex bs) ≡ true
hex_word [] = refl
hex_word (b ∷ bs) =
    rw (above_blank (hex_digit_of (b / 16)) (hex_digit_high (b / 16)), above_blank (hex_digit_of (b % 16)) (hex_digit_high (b % 16))) (hex_word bs)

-- ---- from words to fields

-- the fields, with a blank between each two
abbrev pub joined_fields : Fields → List ℕ
joined_fields (one n) = n
joined_fields (two n f) = n ++ blank ∷ f
joined_fields (three n f s) = (n ++ blank ∷ f) ++ blank ∷ s
joined_fields (four n f s h) = ((n ++ blank ∷ f) ++ blank ∷ s) ++ blank ∷ h
joined_fields too_many = []

-- a word joins the last field
module _ (last : List ℕ → Fields) (joins : (f : List ℕ) (b : ℕ) → eqb b blank ≡ false → into (last f) b ≡ last (f ++ b ∷ [])) where
  word_joins : (f w : List ℕ) → is_word w ≡ true → fields_from (last f) w ≡ last (f ++ w)
  word_joins f [] e = rw (append-nil f)
  word_joins f (b ∷ w) e =
      let both = and_split (not (eqb b blank)) (is_word w) e in
      ap (λ (g : Fields). fields_from g w) (joins f b (not-true (eqb b blank) both.0))
      ∙ word_joins (f ++ b ∷ []) w both.1 ∙ ap last (append_snoc f b w)

-- one part of a line after the other
from_append : (g : Fields) (k l : List ℕ) → fields_from g (k ++ l) ≡ fields_from (fields_from g k) l
from_append g [] l = refl
from_append g (b ∷ k) l = from_append (into g b) k l

module _ (n : List ℕ) (name : is_word n ≡ true) where
  pub fields_one : fields_of (joined_fields (one n)) ≡ one n
  fields_one = word_joins one (λ f b t. rw t) [] n name

  module _ (f : List ℕ) (first : is_word f ≡ true) where
    pub fields_two : fields_of (joined_fields (two n f)) ≡ two n f
    fields_two = from_append (one []) n (blank ∷ f) ∙ rw fields_one (word_joins (two n) (λ f b t. rw t) [] f first)

    module _ (s : List ℕ) (second : is_word s ≡ true) where
      pub fields_three : fields_of (joined_fields (three n f s)) ≡ three n f s
      fields_three =
          from_append (one []) (n ++ blank ∷ f) (blank ∷ s) ∙ rw fields_two (word_joins (three n f) (λ f b t. rw t) [] s second)

      pub fields_four : (h : List ℕ) → is_word h ≡ true → fields_of (joined_fields (four n f s h)) ≡ four n f s h
      fields_four h bytes =
          from_append (one []) ((n ++ blank ∷ f) ++ blank ∷ s) (blank ∷ h)
          ∙ rw fields_three (word_joins (four n f s) (λ f b t. rw t) [] h bytes)

-- ---- from a line to its fields and back

-- these fields are all of the line
abbrev pub AllOf : Fields → List ℕ → Type 0
AllOf (one n) line = joined_fields (one n) ≡ line
AllOf (two n f) line = joined_fields (two n f) ≡ line
AllOf (three n f s) line = joined_fields (three n f s) ≡ line
AllOf (four n f s h) line = joined_fields (four n f s h) ≡ line
AllOf too_many line = Unit {0}

into_all : (g : Fields) (line : List ℕ) (b : ℕ) → AllOf g line → AllOf (into g b) (line ++ b ∷ [])
into_all g line b all = ⊎_elim (ends g all) (joins g all) (true_or_false (eqb b blank))
  where
    more : (k f : List ℕ) → k ++ blank ∷ f ≡ line → k ++ blank ∷ (f ++ b ∷ []) ≡ line ++ b ∷ []
    more k f e = sym (append_assoc k (blank ∷ f) (b ∷ [])) ∙ ap (λ (l : List ℕ). l ++ b ∷ []) e

    ends : (g : Fields) → AllOf g line → eqb b blank ≡ true → AllOf (into g b) (line ++ b ∷ [])
    ends (one n) e t = rw t (rw (e, eqb-true b blank t))
    ends (two n f) e t = rw t (rw (e, eqb-true b blank t))
    ends (three n f s) e t = rw t (rw (e, eqb-true b blank t))
    ends (four n f s h) e t = rw t tt
    ends too_many e t = tt

    joins : (g : Fields) → AllOf g line → eqb b blank ≡ false → AllOf (into g b) (line ++ b ∷ [])
    joins (one n) e t = rw t (ap (λ (l : List ℕ). l ++ b ∷ []) e)
    joins (two n f) e t = rw t (more n f e)
    joins (three n f s) e t = rw t (more (n ++ blank ∷ f) s e)
    joins (four n f s h) e t = rw t (more ((n ++ blank ∷ f) ++ blank ∷ s) h e)
    joins too_many e t = tt

from_all : (g : Fields) (k l : List ℕ) → AllOf g k → AllOf (fields_from g l) (k ++ l)
from_all g k [] all = rw (append-nil k) all
from_all g k (b ∷ l) all = rw (append_snoc k b l) at (from_all (into g b) (k ++ b ∷ []) l (into_all g k b all))

pub fields_all : (line : List ℕ) → AllOf (fields_of line) line
fields_all line = from_all (one []) [] line refl
