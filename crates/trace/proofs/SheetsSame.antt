-- Demand 3 (b) of begins and drains: over memories that are alike in the first 8,192 bytes they give the same, and a drain leaves such memories.
-- Assumes: the table holds bytes.
use Rattle.std.proofs.Common.{Bool, true, false, ◌&&◌, ◌||◌, List, [], ◌∷◌, ◌++◌, ⊎_elim, ◌≡◌, refl, sym, ap, ap₂, ◌∙◌, ℕ, zero, suc, ◌+◌, ◌≤◌, ◌<◌, zero-add, add-zero, add-suc, Ok}
use Rattle.std.proofs.Common.{suc-add, arith, eqb-true, leb, ltb, eqb, length, get_or, set, take, drop, length-set, take_all as take_whole, take-suc-set}
use mathlib.Core.Path.{fun_ext}
use borrow.Author.Tests.{eqb-false}
use lib.Seq.{sets, take-append-le}
use Rattle.memory.specs.Bytes.{Bytes}
use Rattle.memory.specs.Search.{pick, any_below, fold}
use Rattle.memory.proofs.Tests.{lt_or_le, true_or_false}
use Rattle.table.specs.declared.Counts.{Counts}
use Rattle.table.specs.Records.{counts, object_record}
use Rattle.table.specs.Check.{check}
use Rattle.queue.specs.Queues.{waiting}
use Rattle.calls.specs.Answers.{Answer}
use Rattle.calls.specs.Answers.{number_of, value_of}
use Rattle.layer.specs.declared.Reply.{Reply}
use Rattle.layer.specs.Admission.{working_memory}
use Rattle.layer.specs.Promises.{refusal, reply, received, status_read, marks_read, marks_cleared, waiting_for, reads_signed}
use Rattle.layer.specs.Step.{Call, receive, status, marks, clear_marks, step}
use Rattle.sheet.specs.declared.Row.{Row}
use Rattle.sheet.specs.Layout.{most_followed, sheet_size, followed_at, row_at, with_row, objects_in, sheet_in_range}
use Rattle.sheet.specs.Numbers.{new_row, holds_error, with_replies}
use Rattle.sheet.specs.Drains.{Taken, taken, and_then, take_up_to, take_all, Turn, drain_queue, see_marks, drain_object, Both, both, drain_turn, drain_each}
use Rattle.sheet.specs.Lines.{text_size, row_lines}
use Rattle.sheet.specs.Sheets.{wrong_object, stands_before, objects_refusal, first_refusal, sheet_head, new_turn, new_sheet, begin_with, begin, DrainOutcome, drain_with, drain}
use Rattle.sheet.proofs.SheetRows.{row_length, head_length}
use Rattle.sheet.proofs.Outcomes.{few_objects}
use Rattle.trace.specs.Book.{Book}
use Rattle.trace.specs.Drains.{BeginGiven, DrainGiven, begun_by, drained_by}
use Rattle.trace.specs.Demand3.{same}
use Rattle.trace.specs.Drains.{SameBegin, SameDrain}
use Rattle.trace.proofs.Steps.{Follows, step_follows}
use Rattle.trace.proofs.Noninterference.{alike_step}
use Rattle.trace.proofs.DrainCalls.{AboutObject, about_receive, about_status, about_marks, about_clear, about_typed, about_book, none_refuses}
use Rattle.trace.proofs.SheetNumbers.{begin_number, drain_number, refusal_is}

-- ---- the same lines at the front of two texts of one length

set_front : (i : ℕ) (a b : List ℕ) (x : ℕ) → length a ≡ length b → take i a ≡ take i b → take (suc i) (set a i x) ≡ take (suc i) (set b i x)
set_front i a b x long e =
    ⊎_elim
    (λ (low : i < length a).
    take-suc-set a i x low ∙ ap (λ (l : List ℕ). l ++ (x ∷ [])) e ∙ sym (take-suc-set b i x (omega (arith, low, long))))
    (λ (out : length a ≤ i).
    let whole : a ≡ b = sym (take_whole i a out) ∙ e ∙ take_whole i b (omega (arith, out, long)) in
    rw whole)
    (lt_or_le i (length a))

sets_front : (l : List ℕ) (i : ℕ) (a b : List ℕ) → length a ≡ length b → take i a ≡ take i b → take (i + length l) (sets a i l) ≡ take (i + length l) (sets b i l)
sets_front [] i a b long e = rw add-zero e
sets_front (x ∷ l) i a b long e =
    rw (add-suc i (length l), ← suc-add i (length l))
    (sets_front l (suc i) (set a i x) (set b i x) (length-set a i x ∙ long ∙ sym (length-set b i x)) (set_front i a b x long e))

-- a new sheet is as long as a sheet
new_length : (is : List ℕ) → length is ≤ most_followed → length (new_sheet is) ≡ sheet_size
unfolding new_sheet
new_length is few = turns (length is) (omega arith)
  where
    turns : (k : ℕ) → k ≤ length is → length (fold k (new_turn is) (sheet_head (length is))) ≡ sheet_size
    turns zero most = head_length (length is)
    turns (suc k) most =
        let s = fold k (new_turn is) (sheet_head (length is)) in
        let before = turns k (omega (arith, most)) in
        row_length s k (new_row (get_or is k 0)) (omega (arith, before, most, few)) ∙ before

module _ (t : List ℕ) (c : Counts) (accepted : check t ≡ Ok c) (bt : Bytes t) (b : Book) where
  -- two memories that follow one book, alike in the first 8,192 bytes
  pub record Paired (m n : List ℕ) : Type 0 where
    pub first : Follows t c b m
    pub second : Follows t c b n
    pub alike : working_memory m ≡ working_memory n

  -- ---- a call about one object

  record SameStep (call : Call) (m n : List ℕ) : Type 0 where
    answer : (step t call m).answer ≡ (step t call n).answer
    memory : Paired (step t call m).memory (step t call n).memory

  step_same : (call : Call) → AboutObject call → (m n : List ℕ) → Paired m n → SameStep call m n
  step_same call a m n p =
      let y = about_typed call a in
      let o = (alike_step t c accepted bt b m n p.first p.second p.alike call call y y (same refl)).outcome in
      record {
        answer = o.answer;
        memory =
            record {
              first = rw (about_book t c b call a) at (step_follows t c accepted bt b m p.first call y);
              second = rw (about_book t c b call a) at (step_follows t c accepted bt b n p.second call y);
              alike = o.memory;
            };
      }

  -- ---- the queue of an object

  record SameTaken (x y : Taken) : Type 0 where
    replies : x.replies ≡ y.replies
    memory : Paired x.memory y.memory

  -- the last receive, or one that others follow
  taken_same : (last : Bool) (a : Reply) (m n : List ℕ) (x y : Taken) → Paired m n → SameTaken x y
      → SameTaken (pick last (taken [] m) (and_then a x)) (pick last (taken [] n) (and_then a y))
  taken_same true a m n x y p s = record { replies = refl; memory = p }
  taken_same false a m n x y p s = record { replies = ap (λ (l : List Reply). a ∷ l) s.replies; memory = s.memory }

  module _ (i : ℕ) where
    take_same : (k : ℕ) (m n : List ℕ) → Paired m n → SameTaken (take_up_to k t i m) (take_up_to k t i n)
    unfolding take_up_to received
    take_same zero m n p = record { replies = refl; memory = p }
    take_same (suc k) m n p =
        let s = step_same (receive i) (about_receive i) m n p in
        let after = (step t (receive i) m).memory in
        let other = (step t (receive i) n).memory in
        rw (← s.answer)
        (taken_same (eqb (number_of (step t (receive i) m).answer) 4) (received t i m).reply after other (take_up_to k t i after) (take_up_to k t i other) s.memory
        (take_same k after other s.memory))

    all_same : (m n : List ℕ) → Paired m n → SameTaken (take_all t i m) (take_all t i n)
    unfolding take_all waiting_for
    all_same m n p =
        let many = ap (λ (w : List ℕ). suc (length (waiting (object_record t (counts t).ipdus i).depth i w))) p.alike in
        rw many (take_same _ m n p)

    -- ---- its marks

    marks_same : (m n : List ℕ) → Paired m n → (marks_read t i m).reply ≡ (marks_read t i n).reply
    unfolding marks_read
    marks_same m n p = ap (λ (a : Answer). reply (number_of a) (value_of a)) (step_same (marks i) (about_marks i) m n p).answer

    cleared_same : (seen : Bool) (m n : List ℕ) → Paired m n → Paired (pick seen (marks_cleared t i m).memory m) (pick seen (marks_cleared t i n).memory n)
    unfolding marks_cleared
    cleared_same true m n p = (step_same (clear_marks i) (about_clear i) m n p).memory
    cleared_same false m n p = p

  -- ---- one object, and each in its turn

  record SameTurn (x y : Turn) : Type 0 where
    row : x.row ≡ y.row
    memory : Paired x.memory y.memory

  marked_same : (r : Row) (m n : List ℕ) → Paired m n → SameTurn (see_marks t r m) (see_marks t r n)
  unfolding see_marks
  marked_same r m n p =
      let i = r.object in
      let e = marks_same i m n p in
      rw (← e) (record { row = refl; memory = cleared_same i (holds_error (marks_read t i m).reply.value) m n p })

  object_same : (r : Row) (m n : List ℕ) → Paired m n → SameTurn (drain_object t r m) (drain_object t r n)
  unfolding drain_object drain_queue
  object_same r m n p =
      let i = r.object in
      let s = all_same i m n p in
      rw (← s.replies) (marked_same (with_replies (reads_signed t i) r (take_all t i m).replies) (take_all t i m).memory (take_all t i n).memory s.memory)

  record SameBoth (x y : Both) : Type 0 where
    sheet : x.sheet ≡ y.sheet
    memory : Paired x.memory y.memory

  each_same : (k : ℕ) (s m n : List ℕ) → Paired m n → SameBoth (drain_each t k s m) (drain_each t k s n)
  unfolding drain_each
  each_same zero s m n p = record { sheet = refl; memory = p }
  each_same (suc k) s m n p =
      let x = fold k (drain_turn t) (both s m) in
      let y = fold k (drain_turn t) (both s n) in
      let before = each_same k s m n p in
      let turn = object_same (row_at x.sheet k) x.memory y.memory before.memory in
      rw (← before.sheet) (record { sheet = ap (with_row x.sheet k) turn.row; memory = turn.memory })

  -- ---- whether they are refused

  module _ (m n : List ℕ) (p : Paired m n) where
    own_same : (fits : Bool) → refusal t m fits ≡ refusal t n fits
    own_same fits = refusal_is t c accepted bt b m p.first fits ∙ sym (refusal_is t c accepted bt b n p.second fits)

    wrong_same : (is : List ℕ) (j : ℕ) → wrong_object t m is j ≡ wrong_object t n is j
    unfolding status_read
    wrong_same is j = let i = get_or is j 0 in ap (λ (a : Answer). eqb (number_of a) 1) (step_same (status i) (about_status i) m n p).answer

    objects_same : (is : List ℕ) → objects_refusal t m is ≡ objects_refusal t n is
    unfolding objects_refusal
    objects_same is =
        ap (λ (wrong : ℕ → Bool). pick (any_below (length is) wrong) 1 (pick (ltb most_followed (length is) || any_below (length is) (stands_before is)) 10 0))
        (fun_ext (wrong_same is))

    -- ---- a begin

    pub begins_same : (g h : BeginGiven) → g.objects ≡ h.objects → length g.sheet ≡ length h.sheet → SameBegin (begun_by t g m) (begun_by t h n)
    unfolding begin
    begins_same g h objects long = rw other (by (begin_number t g m) refl)
      where
        number : begin_number t g m ≡ begin_number t h n
        number =
            ap₂ first_refusal (ap (λ (k : ℕ). refusal t m (leb sheet_size k)) long ∙ own_same (leb sheet_size (length h.sheet)))
            (ap (objects_refusal t m) objects ∙ objects_same h.objects)

        other : begin t n h.sheet h.objects ≡ begin_with (begin_number t g m) h.sheet g.objects
        other = unfold begin in ap₂ (λ (k : ℕ) (is : List ℕ). begin_with k h.sheet is) (sym number) (sym objects)

        by : (k : ℕ) → begin_number t g m ≡ k → SameBegin (begin_with k g.sheet g.objects) (begin_with k h.sheet g.objects)
        by k e =
            ⊎_elim
            (λ (z : eqb k 0 ≡ true).
            let none = (none_refuses (refusal t m (leb sheet_size (length g.sheet))) (objects_refusal t m g.objects) (e ∙ eqb-true k 0 z)).1 in
            let few = few_objects t m g.objects (objects_refusal t m g.objects) refl none in
            let room : sheet_size ≤ length (new_sheet g.objects) = omega (arith, new_length g.objects few) in
            rw z
            (record {
              reply = refl;
              sheet = λ x. take-append-le sheet_size (new_sheet g.objects) (drop sheet_size g.sheet) room
                  ∙ sym (take-append-le sheet_size (new_sheet g.objects) (drop sheet_size h.sheet) room);
            }))
            (λ (z : eqb k 0 ≡ false). rw z (record { reply = refl; sheet = λ x. absurd (eqb-false k 0 z x) }))
            (true_or_false (eqb k 0))

    -- ---- a drain

    record SameDrained (o q : DrainOutcome) : Type 0 where
      same : SameDrain o q
      memory : Paired o.memory q.memory

    drained_same : (k : ℕ) (s x y : List ℕ) → length x ≡ length y → SameDrained (drain_with k t m s x) (drain_with k t n s y)
    drained_same k s x y long =
        ⊎_elim
        (λ (z : eqb k 0 ≡ true).
        let w = each_same (followed_at s) s m n p in
        let lines = row_lines t (followed_at s) (drain_each t (followed_at s) s m).sheet in
        rw (z, ← w.sheet)
        (record {
          same = record { reply = refl; sheet = refl; lines = λ e. rw (zero-add (length lines)) at (sets_front lines 0 x y long refl) };
          memory = w.memory;
        }))
        (λ (z : eqb k 0 ≡ false).
        rw z (record { same = record { reply = refl; sheet = refl; lines = λ e. absurd (eqb-false k 0 z e) }; memory = p }))
        (true_or_false (eqb k 0))

    pub drains_same : (d e : DrainGiven) → d.sheet ≡ e.sheet → length d.text ≡ length e.text
        → SameDrain (drained_by t d m) (drained_by t e n) × (working_memory (drained_by t d m).memory ≡ working_memory (drained_by t e n).memory)
    unfolding drain
    drains_same d e sheet long =
        let x = drained_same (drain_number t d m) d.sheet d.text e.text long in
        rw other (x.same, x.memory.alike)
      where
        number : drain_number t d m ≡ drain_number t e n
        number =
            ap₂ first_refusal
            (ap₂ (λ (s : List ℕ) (k : ℕ). refusal t m (sheet_in_range s && leb text_size k)) sheet long ∙ own_same (sheet_in_range e.sheet && leb text_size (length e.text)))
            (ap (λ (s : List ℕ). objects_refusal t m (objects_in (followed_at s) s)) sheet ∙ objects_same (objects_in (followed_at e.sheet) e.sheet))

        other : drain t n e.sheet e.text ≡ drain_with (drain_number t d m) t n d.sheet e.text
        other = unfold drain in ap₂ (λ (k : ℕ) (s : List ℕ). drain_with k t n s e.text) (sym number) (sym sheet)
