-- W-201 over every script: what a run prints, and what it leaves in memory and area, is what the definition says (`prints`).
-- Assumes: the script holds bytes, and has fewer than 2 ^ 64 - 1 of them.
use Rattle.std.proofs.Common.{Bool, true, false, List, [], ◌∷◌, ◌++◌, append_assoc, append-nil, ⊎_elim, ◌≡◌, refl, sym, ap, ◌∙◌, ℕ, zero, suc, ◌+◌, Option, Some, None}
use Rattle.std.proofs.Common.{◌-◌, ◌^◌, ◌≤◌, ◌<◌, arith, lt-ltb, ne_eqb, eqb, length}
use Rattle.memory.specs.Bytes.{Bytes}
use Rattle.memory.specs.Search.{pick}
use Rattle.memory.specs.Texts.{line_feed}
use Rattle.memory.proofs.Tests.{true_or_false, lt_or_le}
use Rattle.script.specs.declared.Command.{Command}
use Rattle.script.specs.declared.Reader.{Reader}
use Rattle.script.specs.declared.Reader.TheVariants.{Naming, First, Second, TooMany}
use Rattle.script.specs.declared.Reader.TheVariants.{Bytes as Bytes·line}
use Rattle.script.specs.Reading.{fields_of, bytes_in, read_line}
use Rattle.script.specs.Reader.{next, next_from, fresh, frame_of, frame_bytes}
use Rattle.script.proofs.LineReads.{command_reads, frame_reads, frame_too_long, begun_reads}
use Rattle.report.specs.Printing.{answer_line, refusal_line}
use Rattle.script_run.specs.Script.{effect, ScriptLine, readable, unreadable, line_as, lines_from, Printed, print, printed_by}
use Rattle.script_run.specs.Parts.{Board, board, refused, by_reading, line_ended, advance, advanced, is_empty, end_text}
use Rattle.script_run.specs.Parts.{first_progress, progress_of, resumed}
use Rattle.script_run.proofs.Joined.{advanced_ended}
use Rattle.script_run.proofs.LongFrames.{effect_long}

-- the board at the end is the one that the definition gives, behind the text so far
pub record Agrees (e : Board) (before : List ℕ) (p : Printed) : Type 0 where
  pub text : e.text ++ end_text (progress_of e) ≡ before ++ p.text
  pub memory : e.memory ≡ p.memory
  pub area : e.area ≡ p.area

-- ---- bytes

bytes_head : (x : ℕ) (xs : List ℕ) → Bytes (x ∷ xs) → x < 256
bytes_head x xs h = h 0

bytes_tail : (x : ℕ) (xs : List ℕ) → Bytes (x ∷ xs) → Bytes xs
bytes_tail x xs h = λ i. h (suc i)

bytes_more : (xs : List ℕ) (x : ℕ) → Bytes xs → x < 256 → Bytes (xs ++ x ∷ [])
bytes_more [] x h low zero = low
bytes_more [] x h low (suc i) = omega arith
bytes_more (y ∷ ys) x h low zero = h 0
bytes_more (y ∷ ys) x h low (suc i) = bytes_more ys x (λ j. h (suc j)) low i

next_more : (r : Reader) (xs : List ℕ) (x : ℕ) → next_from r (xs ++ x ∷ []) ≡ next (next_from r xs) x
unfolding next_from
next_more r [] x = refl
next_more r (y ∷ ys) x = next_more (next r y) ys x

fresh_none : next_from fresh [] ≡ fresh
unfolding next_from
fresh_none = refl

none : Bytes []
none i = omega arith

-- the bytes lent for an indication do what those of the line do: they are the same, or both are too long
frames : (t l : List ℕ) (c : Command) → read_line l ≡ Some c → (area m : List ℕ)
    → effect t c (frame_bytes (frame_of (next_from fresh l))) area m ≡ effect t c (bytes_in (fields_of l)) area m
frames t l c e area m =
    ⊎_elim
    (λ (long : 8 < length (bytes_in (fields_of l))).
    effect_long t c (frame_bytes (frame_of (next_from fresh l))) (bytes_in (fields_of l)) area m (frame_too_long l e long) long)
    (λ (short : length (bytes_in (fields_of l)) ≤ 8). ap (λ (x : List ℕ). effect t c x area m) (frame_reads l e short))
    (lt_or_le 8 (length (bytes_in (fields_of l))))

-- a line of which something was read is not empty
filled : (x : ℕ) (l : List ℕ) → is_empty (next_from fresh (x ∷ l)) ≡ false
filled x l = go (next_from fresh (x ∷ l)) refl
  where
    go : (r : Reader) → next_from fresh (x ∷ l) ≡ r → is_empty r ≡ false
    go (Naming n) e = ne_eqb n.letters 0 (begun_reads x l n e)
    go (First n f) e = refl
    go (Second n f s) e = refl
    go (Bytes·line n f s h) e = refl
    go TooMany e = refl

module _ (t : List ℕ) where
  -- ---- the end of the script

  at_end : (l : List ℕ) (n : ℕ) (m area before : List ℕ)
      → Agrees (board (next_from fresh l) n false m area before) before (print t n (lines_from l []) m area)
  unfolding next_from fresh
  at_end [] n m area before = record { text = refl; memory = refl; area = refl }
  at_end (x ∷ l) n m area before =
      record { text = ap (λ (e : Bool). before ++ pick e [] (refusal_line n)) (filled x l); memory = refl; area = refl }

  -- ---- a line feed

  -- what follows a line that was read, of which `ih` says the rest
  line_read : (c : Command) (o_bytes : List ℕ) (n : ℕ) (m area before s : List ℕ) (rest : List ScriptLine) →
      let o = effect t c o_bytes area m in
      let line = answer_line t c o.answer o.area in
      Agrees (advanced t (board fresh (n + 1) false o.memory o.area (before ++ line)) s) (before ++ line) (print t (n + 1) rest o.memory o.area)
      → Agrees (advanced t (board fresh (n + 1) false o.memory o.area (before ++ line)) s) before (print t n (readable c o_bytes ∷ rest) m area)
  line_read c bytes n m area before s rest h =
      let o = effect t c bytes area m in
      let line = answer_line t c o.answer o.area in
      let more : n + 1 ≡ suc n = omega arith in
      record {
        text = h.text ∙ append_assoc before line (print t (n + 1) rest o.memory o.area).text ∙ ap (λ (k : ℕ). before ++ (line ++ (print t k rest o.memory o.area).text)) more;
        memory = h.memory ∙ ap (λ (k : ℕ). (print t k rest o.memory o.area).memory) more;
        area = h.area ∙ ap (λ (k : ℕ). (print t k rest o.memory o.area).area) more;
      }

  -- a line that can't be read ends the run
  line_refused : (l : List ℕ) (n : ℕ) (m area before s : List ℕ) (rest : List ScriptLine) (r : Reader)
      → Agrees (advanced t (refused (board r n false m area before)) s) before (print t n (unreadable ∷ rest) m area)
  line_refused l n m area before s rest r =
      rw (advanced_ended t (refused (board r n false m area before)) s refl)
      record { text = append-nil (before ++ refusal_line n); memory = refl; area = refl }

  -- the line feed of line l, where `ih` says what follows it
  line_ended_lem : (l : List ℕ) (n : ℕ) → n < 2 ^ 64 - 1 → (m area before s : List ℕ) (rest : List ScriptLine)
      → ((m area before : List ℕ) → Agrees (advanced t (board fresh (n + 1) false m area before) s) before (print t (n + 1) rest m area))
      → (r : Option Command) → read_line l ≡ r →
      let b = board (next_from fresh l) n false m area before in
      Agrees (advanced t (by_reading t r (frame_bytes (frame_of (next_from fresh l))) b) s) before (print t n (line_as r (bytes_in (fields_of l)) ∷ rest) m area)
  line_ended_lem l n low m area before s rest ih (Some c) e =
      let o = effect t c (bytes_in (fields_of l)) area m in
      rw (frames t l c e area m, lt-ltb n (2 ^ 64 - 1) low)
      (line_read c (bytes_in (fields_of l)) n m area before s rest (ih o.memory o.area (before ++ answer_line t c o.answer o.area)))
  line_ended_lem l n low m area before s rest ih None e = line_refused l n m area before s rest (next_from fresh l)

  -- ---- every byte

  agrees : (s l : List ℕ) → Bytes s → Bytes l → (n : ℕ) → n + length s < 2 ^ 64 → (m area before : List ℕ)
      → Agrees (advanced t (board (next_from fresh l) n false m area before) s) before (print t n (lines_from l s) m area)
  unfolding advanced advance line_ended
  agrees [] l bs bl n low m area before = at_end l n m area before
  agrees (x ∷ s) l bs bl n low m area before =
      ⊎_elim
      (λ (feed : eqb x line_feed ≡ true).
      rw (feed, command_reads l bl)
      (line_ended_lem l n (omega arith) m area before s (lines_from [] s)
      (λ m area before. rw (sym fresh_none) (agrees s [] (bytes_tail x s bs) none (n + 1) (omega arith) m area before)) (read_line l) refl))
      (λ (other : eqb x line_feed ≡ false).
      rw (other, ← next_more fresh l x)
      (agrees s (l ++ x ∷ []) (bytes_tail x s bs) (bytes_more l x bl (bytes_head x s bs)) n (omega arith) m area before))
      (true_or_false (eqb x line_feed))

-- ---- the whole script, from its beginning to its end

pub prints : (t script m area : List ℕ) → Bytes script → 1 + length script < 2 ^ 64
    → Agrees (advanced t (resumed first_progress m area) script) [] (printed_by t script m area)
prints t script m area bs low = rw fresh_none at (agrees t script [] bs none 1 low m area [])
