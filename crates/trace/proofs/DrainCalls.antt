-- A drain leaves working memory as its receives, marks and clear marks, one after the other, do (`drain_memory`); a refused one leaves it. These
-- calls tell the book nothing (`all_about_book`). Assumes nothing.
use Rattle.std.proofs.Common.{Bool, true, false, ◌&&◌, List, [], ◌∷◌, ◌++◌, ⊎_elim, ◌≡◌, refl, sym, ap, ap₂}
use Rattle.std.proofs.Common.{◌∙◌, ℕ, zero, suc, ◌≤◌, arith, eqb-true, leb, ltb, eqb, length, drop, take-append-drop, Ok, Err}
use borrow.Author.Tests.{eqb-false}
use Rattle.memory.specs.Bytes.{Bytes}
use Rattle.memory.specs.Search.{pick, fold}
use Rattle.memory.proofs.Search.{picked}
use Rattle.memory.proofs.Tests.{and_split, true_or_false}
use Rattle.table.specs.declared.Counts.{Counts}
use Rattle.state.specs.Layout.{memory_size}
use Rattle.calls.specs.Answers.{Outcome, number_of, value_of}
use Rattle.calls.specs.Calls.{marks_in}
use Rattle.layer.specs.Admission.{Admission}
use Rattle.layer.specs.declared.Reply.{Reply}
use Rattle.layer.specs.Admission.{if_admitted}
use Rattle.layer.specs.Promises.{refusal, received, marks_read, marks_cleared, waiting_for, reads_signed}
use Rattle.layer.specs.Step.{Call, receive, status, marks, clear_marks, no_area, told_nothing, describe, admission_for, step, memory_after}
use Rattle.layer.proofs.GoesOn.{refused_unfit}
use Rattle.sheet.specs.declared.Row.{Row}
use Rattle.sheet.specs.Layout.{most_followed, sheet_size, followed_at, row_at, objects_in, sheet_in_range}
use Rattle.sheet.specs.Numbers.{holds_error, with_reply, with_replies}
use Rattle.sheet.specs.Drains.{Taken, taken, and_then, take_up_to, take_all, drain_queue, see_marks, drain_object, both, drain_turn, drain_each}
use Rattle.sheet.specs.Lines.{text_size}
use Rattle.sheet.specs.Sheets.{objects_refusal, first_refusal, drain}
use Rattle.sheet.proofs.InRange.{range_long, range_few}
use Rattle.sheet.proofs.SheetRows.{row_length, row_other}
use Rattle.trace.specs.Book.{Book, advance, book_after}
use Rattle.trace.specs.Demand3.{Typed, AllTyped}
use Rattle.trace.specs.Drains.{DrainGiven, drained_by, receives_up_to, receives_of, marks_of, turn_of, turns_of, drain_calls}

pub memory_then : (t : List ℕ) (xs ys : List Call) (m : List ℕ) → memory_after t (xs ++ ys) m ≡ memory_after t ys (memory_after t xs m)
memory_then t [] ys m = refl
memory_then t (x ∷ xs) ys m = memory_then t xs ys (step t x m).memory

-- ---- calls about one object

-- the layer has to run for it, it tells the book nothing, is given no bytes and lent no area
pub record AboutObject (call : Call) : Type 0 where
  pub runs : (describe call).running ≡ true
  pub told : (describe call).told ≡ told_nothing
  pub bytes : (describe call).bytes ≡ []
  pub lent : (describe call).lent ≡ no_area

abbrev pub AllAboutObjects : List Call → Type 0
AllAboutObjects [] = Unit {0}
AllAboutObjects (x ∷ xs) = AboutObject x × AllAboutObjects xs

pub about_receive : (i : ℕ) → AboutObject (receive i)
about_receive i = record { runs = refl; told = refl; bytes = refl; lent = refl }

pub about_status : (i : ℕ) → AboutObject (status i)
about_status i = record { runs = refl; told = refl; bytes = refl; lent = refl }

pub about_marks : (i : ℕ) → AboutObject (marks i)
about_marks i = record { runs = refl; told = refl; bytes = refl; lent = refl }

pub about_clear : (i : ℕ) → AboutObject (clear_marks i)
about_clear i = record { runs = refl; told = refl; bytes = refl; lent = refl }

both_about : (xs ys : List Call) → AllAboutObjects xs → AllAboutObjects ys → AllAboutObjects (xs ++ ys)
both_about [] ys a b = b
both_about (x ∷ xs) ys a b = (a.0, both_about xs ys a.1 b)

either_about : (b : Bool) (xs ys : List Call) → AllAboutObjects xs → AllAboutObjects ys → AllAboutObjects (pick b xs ys)
either_about b xs ys p q = picked AllAboutObjects b xs ys (λ e. p) (λ e. q)

module _ (t : List ℕ) where
  receives_about : (n i : ℕ) (m : List ℕ) → AllAboutObjects (receives_up_to n t i m)
  receives_about zero i m = tt
  receives_about (suc n) i m = (about_receive i, either_about (eqb (number_of (step t (receive i) m).answer) 4) [] _ tt (receives_about n i (step t (receive i) m).memory))

  turn_about : (i : ℕ) (m : List ℕ) → AllAboutObjects (turn_of t i m)
  turn_about i m =
      both_about (receives_of t i m) (marks_of t i (memory_after t (receives_of t i m) m)) (receives_about (suc (length (waiting_for t i m))) i m)
      (about_marks i, either_about (seen (memory_after t (receives_of t i m) m)) (clear_marks i ∷ []) [] (about_clear i, tt) tt)
    where
      seen : List ℕ → Bool
      seen n = holds_error (value_of (step t (marks i) n).answer)

  turns_about : (is m : List ℕ) → AllAboutObjects (turns_of t is m)
  turns_about [] m = tt
  turns_about (i ∷ is) m = both_about (turn_of t i m) (turns_of t is (memory_after t (turn_of t i m) m)) (turn_about i m) (turns_about is (memory_after t (turn_of t i m) m))

  -- all calls of a drain are such
  pub drain_about : (d : DrainGiven) (m : List ℕ) → AllAboutObjects (drain_calls t d m)
  drain_about d m =
      let is = objects_in (followed_at d.sheet) d.sheet in
      either_about (eqb (drained_by t d m).reply.number 0) (turns_of t is m) [] (turns_about is m) tt

none : Bytes []
none i = omega arith

pub about_typed : (call : Call) → AboutObject call → Typed call
about_typed call a = (rw a.told tt, rw a.bytes none)

pub all_about_typed : (calls : List Call) → AllAboutObjects calls → AllTyped calls
all_about_typed [] a = tt
all_about_typed (x ∷ xs) a = (about_typed x a.0, all_about_typed xs a.1)

pub about_book : (t : List ℕ) (c : Counts) (b : Book) (call : Call) → AboutObject call → advance t c b call ≡ b
unfolding advance
about_book t c b call a = rw a.told

pub all_about_book : (t : List ℕ) (c : Counts) (calls : List Call) (b : Book) → AllAboutObjects calls → book_after t c b calls ≡ b
all_about_book t c [] b a = refl
all_about_book t c (x ∷ xs) b a = ap (λ (d : Book). book_after t c d xs) (about_book t c b x a.0) ∙ all_about_book t c xs b a.1

-- ---- one object

module _ (t : List ℕ) (i : ℕ) where
  -- the last receive of a queue, or one that others follow
  queue_memory : (last : Bool) (a : Reply) (x : Taken) (calls : List Call) (m : List ℕ) → x.memory ≡ memory_after t calls m
      → (pick last (taken [] m) (and_then a x)).memory ≡ memory_after t (pick last [] calls) m
  queue_memory true a x calls m e = refl
  queue_memory false a x calls m e = e

  receives_memory : (n : ℕ) (m : List ℕ) → (take_up_to n t i m).memory ≡ memory_after t (receives_up_to n t i m) m
  unfolding take_up_to received
  receives_memory zero m = refl
  receives_memory (suc n) m =
      let o = step t (receive i) m in
      queue_memory (eqb (number_of o.answer) 4) (received t i m).reply (take_up_to n t i o.memory) (receives_up_to n t i o.memory) o.memory
      (receives_memory n o.memory)

  -- marks leave memory, refused or not
  marks_memory : (m : List ℕ) → (step t (marks i) m).memory ≡ m
  unfolding step marks_in
  marks_memory m = by (admission_for (describe (marks i)) t m)
    where
      by : (a : Admission) → (if_admitted a m [] (λ c. marks_in c i)).memory ≡ m
      by (Ok c) =
          picked (λ (o : Outcome). o.memory ++ drop memory_size m ≡ m) (ltb i c.objects) _ _
          (λ e. take-append-drop memory_size m) (λ e. take-append-drop memory_size m)
      by (Err a) = refl

  cleared_memory : (seen : Bool) (m : List ℕ) → pick seen (step t (clear_marks i) m).memory m ≡ memory_after t (pick seen (clear_marks i ∷ []) []) m
  cleared_memory true m = refl
  cleared_memory false m = refl

  -- its marks, read and cleared
  marked_memory : (m : List ℕ) → pick (holds_error (marks_read t i m).reply.value) (marks_cleared t i m).memory m ≡ memory_after t (marks_of t i m) m
  unfolding marks_read marks_cleared
  marked_memory m =
      let seen = holds_error (value_of (step t (marks i) m).answer) in
      cleared_memory seen m ∙ ap (memory_after t (pick seen (clear_marks i ∷ []) [])) (sym (marks_memory m))

-- the row of an object stays that object's
same_object_lem : (signed : Bool) (r : Row) (xs : List Reply) → (with_replies signed r xs).object ≡ r.object
unfolding with_reply
same_object_lem signed r [] = refl
same_object_lem signed r (a ∷ xs) = same_object_lem signed (with_reply signed r a) xs

object_memory : (t : List ℕ) (r : Row) (m : List ℕ) → (drain_object t r m).memory ≡ memory_after t (turn_of t r.object m) m
unfolding drain_object drain_queue see_marks take_all
object_memory t r m =
    let i = r.object in
    let taken = take_all t i m in
    let queue = receives_memory t i (suc (length (waiting_for t i m))) m in
    rw (same_object_lem (reads_signed t i) r taken.replies)
    (marked_memory t i taken.memory
    ∙ ap (λ (n : List ℕ). memory_after t (marks_of t i n) n) queue
    ∙ sym (memory_then t (receives_of t i m) (marks_of t i (memory_after t (receives_of t i m) m)) m))

-- ---- each in its turn

module _ (t : List ℕ) where
  one_more : (is : List ℕ) (i : ℕ) (m : List ℕ) →
      let n = memory_after t (turns_of t is m) m in
      memory_after t (turns_of t (is ++ (i ∷ [])) m) m ≡ memory_after t (turn_of t i n) n
  one_more [] i m = memory_then t (turn_of t i m) [] m
  one_more (j ∷ is) i m =
      let n = memory_after t (turn_of t j m) m in
      memory_then t (turn_of t j m) (turns_of t (is ++ (i ∷ [])) n) m
      ∙ one_more is i n
      ∙ ap (λ (l : List ℕ). memory_after t (turn_of t i l) l) (sym (memory_then t (turn_of t j m) (turns_of t is n) m))

  module _ (s m : List ℕ) (long : sheet_size ≤ length s) where
    -- the sheet keeps its length, and a row is as it was until its turn
    turns_length : (n : ℕ) → n ≤ most_followed → length (drain_each t n s m).sheet ≡ length s
    unfolding drain_each
    turns_length zero few = refl
    turns_length (suc n) few =
        let x = fold n (drain_turn t) (both s m) in
        let before = turns_length n (omega (arith, few)) in
        row_length x.sheet n (drain_object t (row_at x.sheet n) x.memory).row (omega (arith, few, long, before)) ∙ before

    turns_row : (n k : ℕ) → n ≤ k → n ≤ most_followed → row_at (drain_each t n s m).sheet k ≡ row_at s k
    unfolding drain_each
    turns_row zero k low few = refl
    turns_row (suc n) k low few =
        let x = fold n (drain_turn t) (both s m) in
        row_other x.sheet n (drain_object t (row_at x.sheet n) x.memory).row (omega (arith, few, long, turns_length n (omega (arith, few)))) k
        (λ e. omega (arith, e, low))
        ∙ turns_row n k (omega (arith, low)) (omega (arith, few))

    turns_memory : (n : ℕ) → n ≤ most_followed → (drain_each t n s m).memory ≡ memory_after t (turns_of t (objects_in n s) m) m
    unfolding drain_each
    turns_memory zero few = refl
    turns_memory (suc n) few =
        let x = fold n (drain_turn t) (both s m) in
        object_memory t (row_at x.sheet n) x.memory
        ∙ ap₂ (λ (i : ℕ) (l : List ℕ). memory_after t (turn_of t i l) l) (ap (λ (r : Row). r.object) (turns_row n n (omega arith) (omega (arith, few))))
        (turns_memory n (omega (arith, few)))
        ∙ sym (one_more (objects_in n s) (row_at s n).object m)

-- ---- a drain

-- the number that refuses, if any: the layer's, or else the objects'
pub none_refuses : (r k : ℕ) → first_refusal r k ≡ 0 → (r ≡ 0) × (k ≡ 0)
none_refuses r k e =
    ⊎_elim
    (λ (z : eqb r 0 ≡ true). (eqb-true r 0 z, rw z at e))
    (λ (z : eqb r 0 ≡ false). absurd (eqb-false r 0 z (rw z at e)))
    (true_or_false (eqb r 0))

module _ (t : List ℕ) (d : DrainGiven) (m : List ℕ) where
  abbrev s : List ℕ
  s = d.sheet

  abbrev fits : Bool
  fits = sheet_in_range s && leb text_size (length d.text)

  -- it goes by the number that refuses
  abbrev number : ℕ
  number = first_refusal (refusal t m fits) (objects_refusal t m (objects_in (followed_at s) s))

  in_range_lem : (b : Bool) → refusal t m b ≡ 0 → b ≡ true
  in_range_lem true e = refl
  in_range_lem false e = absurd (refused_unfit t m e)

  pub drain_memory : (drained_by t d m).memory ≡ memory_after t (drain_calls t d m) m
  unfolding drain
  drain_memory =
      ⊎_elim
      (λ (z : eqb number 0 ≡ true).
      let right = in_range_lem fits (none_refuses (refusal t m fits) _ (eqb-true number 0 z)).0 in
      let range = (and_split (sheet_in_range s) (leb text_size (length d.text)) right).0 in
      rw z (turns_memory t s m (range_long s range) (followed_at s) (range_few s range)))
      (λ (z : eqb number 0 ≡ false). rw (z, z))
      (true_or_false (eqb number 0))
