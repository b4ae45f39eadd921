-- Texts that are put one behind the other into a buffer. The laws ask for plain values, so that a search finds them.
-- Assumes nothing.
use Rattle.std.proofs.Common.{Bool, List, [], ◌∷◌, ◌++◌, ◌≡◌, ℕ, suc, ◌+◌, ◌^◌, ◌≤◌, ◌<◌, arith, refl, sym, ◌∙◌, ℤ, pos, negsuc, length, Ok, Err}
use borrow.Rule.Slice.PartMut.{put_mid}
use Rattle.memory.proofs.Parts.{put_replaced, sets_replaced}
use Rattle.memory.specs.Texts.{line_feed, digit_of, decimal, number_field, Put}
use Rattle.memory.specs.Integers.{integer, integer_field}
use Rattle.memory.proofs.Decimals.{decimal_length}
use Rattle.memory.proofs.IntegerLaws.{integer_length}
use Rattle.memory.proofs.Puts.{put_append, put_length, number_end}
use Rattle.calls.specs.Answers.{Answer}
use Rattle.calls.specs.declared.Success.TheVariants.{Done, Limit}
use Rattle.calls.specs.declared.Refusal.TheVariants.{WrongId, WrongLength, NoMessage, WrongTable, WrongMemory, Stopped, NotRequested}
use Rattle.calls.specs.Answers.{number_of}
use Rattle.report.specs.Printing.{val_name, refusal_line, longest_line}

-- a text that is copied as it stands
pub text_put : (at k : ℕ) (text m : List ℕ) → length text ≡ k → at + length text ≤ length m → Put at text m (put_mid at k m text) (at + length text)
text_put at k text m same room = record { stored = put_replaced at k text m same ∙ sym (sets_replaced at text m room); behind = refl }

-- ---- the first digit of a line

pub number_low : (a : Answer) {n : ℕ} → n ≡ number_of a → n < 10
number_low (Ok (Done v)) e = omega arith
number_low (Err WrongId) e = omega arith
number_low (Err WrongLength) e = omega arith
number_low (Ok (Limit v)) e = omega arith
number_low (Err NoMessage) e = omega arith
number_low (Err WrongTable) e = omega arith
number_low (Err WrongMemory) e = omega arith
number_low (Err Stopped) e = omega arith
number_low (Err NotRequested) e = omega arith

pub put_number_of : (a : Answer) {number at e f : ℕ} {text m n p : List ℕ} → number ≡ number_of a → Put at (digit_of number ∷ []) m n e → Put e text n p f
    → Put at (digit_of (number_of a) ∷ text) m p f
put_number_of a same first rest = put_append (rw same at first) rest

-- ---- a value and a line number

-- a blank, a minus and 20 digits at the most, whatever the integer
pub field_length : (z : ℤ) → length (integer_field z) ≤ 22
field_length (pos n) = omega (arith, decimal_length n)
field_length (negsuc n) = omega (arith, decimal_length (suc n))

-- ` val` and an integer
module _ (signed : Bool) (v at : ℕ) {behind : ℕ} {m n : List ℕ} (name : Put at val_name m n behind) where
  pub value_fits : v < 2 ^ 32 → at + 26 ≤ length m → behind + length (integer_field (integer signed v)) ≤ length n
  value_fits fits room = omega (arith, name.behind, integer_length signed v fits, put_length name, room)

  module _ {e : ℕ} {p : List ℕ} (put : Put behind (integer_field (integer signed v)) n p e) where
    pub value_room : v < 2 ^ 32 → at + 26 ≤ length m → e < length p
    value_room fits room = omega (arith, put.behind, name.behind, integer_length signed v fits, put_length put, put_length name, room)

    pub value_put : {f : ℕ} {q : List ℕ} → Put e (line_feed ∷ []) p q f → Put at ((val_name ++ integer_field (integer signed v)) ++ line_feed ∷ []) m q f
    value_put end = put_append (put_append name put) end

-- 9 and a number of at most 20 digits
module _ (n : ℕ) {at e : ℕ} {m p : List ℕ} (room : at + longest_line ≤ length m) (first : Put at (digit_of 9 ∷ []) m p e) where
  pub refusal_room : e + 1 + length (decimal n) ≤ length p
  refusal_room = omega (arith, first.behind, put_length first, decimal_length n, room)

  pub refusal_end : {f : ℕ} {q : List ℕ} → Put e (number_field n) p q f → f < length q
  refusal_end second = omega (arith, first.behind, put_length first, number_end n second, put_length second, room)

pub put_refusal : (n : ℕ) {at e f g : ℕ} {m p q r : List ℕ} → Put at (digit_of 9 ∷ []) m p e → Put e (number_field n) p q f → Put f (line_feed ∷ []) q r g
    → Put at (refusal_line n) m r g
unfolding refusal_line
put_refusal n first second third = put_append (put_append first second) third
