-- The line of a call: how it is put, when it is the status alone, and how long it is.
-- Assumes nothing.
use Rattle.std.proofs.Common.{Bool, true, false, ◌||◌, List, [], ◌∷◌, ◌++◌, ◌≡◌, refl, sym, ◌∙◌, ℕ, ◌≤◌, zero-le, arith, ne_eqb, eqb, length, length-append}
use Rattle.memory.specs.Texts.{line_feed, digit_of, Put}
use Rattle.memory.specs.Integers.{integer, integer_field}
use Rattle.memory.proofs.Decimals.{decimal_length}
use Rattle.table.specs.declared.Counts.{Counts}
use Rattle.table.specs.Records.{counts}
use Rattle.table.specs.Check.{Right}
use Rattle.config.specs.Decode.{is_signed}
use Rattle.state.specs.Layout.{area_size}
use Rattle.calls.specs.Answers.{Answer}
use Rattle.calls.specs.Answers.{number_of, value_of}
use Rattle.script.specs.declared.Ask.TheVariants.{Receive, Status, Marks, ClearMarks}
use Rattle.script.specs.declared.Command.{Command}
use Rattle.script.specs.declared.Command.TheVariants.{Start, Stop, Send, Initialise, Object, Periodic, Indication, Confirm, Tick}
use Rattle.report.specs.declared.Shown.{Shown}
use Rattle.report.specs.declared.Shown.TheVariants.{StatusAlone, Value, Requests}
use Rattle.report.specs.Printing.{lends, shown, shown_value, shown_text, val_name, request_texts, answer_line, refusal_line, longest_line}
use Rattle.report.proofs.Puts.{put_number_of, field_length}
use Rattle.report.proofs.RequestTexts.{in_table, texts_done, texts_length}

-- ---- how it is put

module _ (t area : List ℕ) (command : Command) (a : Answer) (number at e f : ℕ) (m n p : List ℕ) (s : Shown) (same : s ≡ shown t command a)
    (numbered : number ≡ number_of a) (first : Put at (digit_of number ∷ []) m n e) where
  line_put : Put e (shown_text t area s ++ line_feed ∷ []) n p f → Put at (answer_line t command a area) m p f
  unfolding answer_line
  line_put rest = put_number_of a numbered first (rw same at rest)

  pub alone_put : s ≡ StatusAlone → Put e (line_feed ∷ []) n p f → Put at (answer_line t command a area) m p f
  alone_put alone rest = line_put (rw alone rest)

  pub value_line_put : (signed : Bool) (v : ℕ) → s ≡ Value signed v → Put e ((val_name ++ integer_field (integer signed v)) ++ line_feed ∷ []) n p f
      → Put at (answer_line t command a area) m p f
  value_line_put signed v given rest = line_put (rw given rest)

  pub requests_put : (c : Counts) (w : ℕ) → Right t c → s ≡ Requests w → Put e (request_texts t c.ipdus w area ++ line_feed ∷ []) n p f
      → Put at (answer_line t command a area) m p f
  requests_put c w right named rest = line_put (rw (named, ← right.counted) rest)

-- requests are shown only where an area was lent
value_lends : (gives signed : Bool) (a : Answer) (w : ℕ) (x y : Bool) → shown_value gives signed a ≡ Requests w → x ≡ y
value_lends true signed a w x y e = cc
value_lends false signed a w x y e = cc

requests_lend : (t : List ℕ) (command : Command) (a : Answer) (w : ℕ) → shown t command a ≡ Requests w → lends command ≡ true
requests_lend t Start a w e = cc
requests_lend t Stop a w e = cc
requests_lend t (Send i v) a w e = refl
requests_lend t (Initialise i v) a w e = cc
requests_lend t (Object Receive i) a w e = value_lends (eqb (number_of a) 0 || eqb (number_of a) 3) (is_signed t (counts t) i.0) a w false true e
requests_lend t (Object Status i) a w e = cc
requests_lend t (Object Marks i) a w e = value_lends (eqb (number_of a) 0) false a w false true e
requests_lend t (Object ClearMarks i) a w e = cc
requests_lend t (Periodic on) a w e = cc
requests_lend t (Indication k good) a w e = cc
requests_lend t (Confirm k good) a w e = cc
requests_lend t Tick a w e = refl

pub lent_long : (t area : List ℕ) (command : Command) (a : Answer) (w : ℕ) (s : Shown) → (lends command ≡ true → area_size ≤ length area)
    → s ≡ shown t command a → s ≡ Requests w → area_size ≤ length area
lent_long t area command a w s long same named = long (requests_lend t command a w (sym same ∙ named))

-- ---- the status alone

no_requests : (t area : List ℕ) (n : ℕ) → request_texts t n 0 area ≡ []
unfolding request_texts
no_requests t area n = texts_done t area 0 0 n zero-le refl

shows_nothing : (t area : List ℕ) (command : Command) (a : Answer) → value_of a ≡ 0 → (number_of a ≡ 0 → ⊥) → (number_of a ≡ 3 → ⊥)
    → shown_text t area (shown t command a) ≡ []
shows_nothing t area Start a none not_done not-limit = refl
shows_nothing t area Stop a none not_done not-limit = refl
shows_nothing t area (Send i v) a none not_done not-limit = rw none (no_requests t area (counts t).ipdus)
shows_nothing t area (Initialise i v) a none not_done not-limit = refl
shows_nothing t area (Object Receive i) a none not_done not-limit = rw (ne_eqb _ _ not_done, ne_eqb _ _ not-limit)
shows_nothing t area (Object Status i) a none not_done not-limit = refl
shows_nothing t area (Object Marks i) a none not_done not-limit = rw (ne_eqb _ _ not_done)
shows_nothing t area (Object ClearMarks i) a none not_done not-limit = refl
shows_nothing t area (Periodic on) a none not_done not-limit = refl
shows_nothing t area (Indication k good) a none not_done not-limit = refl
shows_nothing t area (Confirm k good) a none not_done not-limit = refl
shows_nothing t area Tick a none not_done not-limit = rw none (no_requests t area (counts t).ipdus)

pub status_line : (t : List ℕ) (command : Command) (a : Answer) (area : List ℕ) → value_of a ≡ 0 → (number_of a ≡ 0 → ⊥) → (number_of a ≡ 3 → ⊥)
    → answer_line t command a area ≡ digit_of (number_of a) ∷ line_feed ∷ []
unfolding answer_line
status_line t command a area none not_done not-limit = rw (shows_nothing t area command a none not_done not-limit)

pub start_line : (t : List ℕ) (a : Answer) (area : List ℕ) → answer_line t Start a area ≡ digit_of (number_of a) ∷ line_feed ∷ []
unfolding answer_line
start_line t a area = refl

-- ---- how long it is: 32 requests of 24 bytes are the longest

shown_length : (t area : List ℕ) (c : Counts) → Right t c → (s : Shown) → length (shown_text t area s) ≤ 768
shown_length t area c right StatusAlone = zero-le
shown_length t area c right (Value signed v) = omega (arith, field_length (integer signed v))
shown_length t area c right (Requests w) =
    rw (← right.counted) (omega (arith, texts_length t area w c.ipdus (in_table t c right), right.shape.ipdus))

pub answer_length : (t : List ℕ) (c : Counts) (command : Command) (a : Answer) (area : List ℕ) → Right t c
    → length (answer_line t command a area) ≤ longest_line
unfolding answer_line
answer_length t c command a area right = simp length-append (omega (arith, shown_length t area c right (shown t command a)))

pub refusal_length : (n : ℕ) → length (refusal_line n) ≤ longest_line
unfolding refusal_line
refusal_length n = simp length-append (omega (arith, decimal_length n))
