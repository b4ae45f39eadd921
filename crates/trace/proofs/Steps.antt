-- Any call, admitted or refused, from what its row shows: working memory follows the book, the slots that its word names hold the
-- I-PDUs, and whether it is done follows from the book.
-- Assumes: the table holds bytes, and arguments are of the types that the calls take (`Typed`).
use Rattle.std.proofs.Common.{Bool, true, false, ◌&&◌, List, [], ◌∷◌, ◌++◌, ⊎_elim, ◌≡◌, refl, sym, ap, subst, ◌∙◌, ℕ, ◌≤◌, arith, le-leb, leb-true, ne_eqb, leb, eqb, length, drop, Ok, Result, Err}
use Rattle.memory.specs.Bytes.{Bytes}
use Rattle.memory.specs.Search.{pick}
use Rattle.memory.proofs.Tests.{true_or_false, true_not_false}
use Rattle.table.specs.declared.Counts.{Counts}
use Rattle.table.specs.declared.WrongRecord.{WrongRecord}
use Rattle.table.specs.Records.{counts}
use Rattle.table.specs.Check.{check}
use Rattle.table.proofs.Accepted.{accepted_right}
use Rattle.state.specs.Layout.{memory_size, running_at}
use Rattle.state.proofs.Ready.{ready_in_range}
use Rattle.calls.specs.Answers.{Answer}
use Rattle.calls.specs.declared.Refusal.{Refusal}
use Rattle.calls.specs.declared.Refusal.TheVariants.{WrongMemory, Stopped}
use Rattle.calls.specs.Answers.{Outcome, number_of, value_of}
use Rattle.layer.specs.Admission.{Admission}
use Rattle.layer.specs.Admission.{working_memory, admission, start_admission_of, start_admission, if_admitted}
use Rattle.startup.specs.Start.{started, start_in}
use Rattle.layer.specs.Step.{Call, start, Lent, no_area, requests, lent_bytes, long_enough, Told, told_start, told_stop, told_send, told_initialise, told_nothing, Description}
use Rattle.layer.specs.Step.{describe, admission_for, step, memory_after}
use Rattle.layer.proofs.Admitted.{front_of}
use Rattle.layer.proofs.ReadyKept.{working_ready}
use Rattle.trace.specs.Book.{Book, opened, entered, next, advance, book_after}
use Rattle.trace.specs.Demand3.{Typed, AllTyped, done, word_in, word_of, Judged}
use Rattle.trace.proofs.Refines.{Refines}
use Rattle.trace.proofs.FramesInArea.{FramesInArea}
use Rattle.trace.proofs.StartRefines.{refines_start}
use Rattle.trace.proofs.SendFrames.{in_area_zero}
use Rattle.trace.proofs.Shows.{goes_on, shows}

-- ---- an accepted start: the table is right, and memory is long enough

pub record Begins (t m : List ℕ) : Type 0 where
  pub table : check t ≡ Ok (counts t)
  pub long : memory_size ≤ length m

not_done : false ≡ true → ⊥
not_done e = true_not_false {b = true} refl (sym e)

pub start_accepted : (t m : List ℕ) → done (step t start m) ≡ true → Begins t m
unfolding step start_admission
start_accepted t m e = cases (check t) refl e
  where
    cases : (v : Result Counts WrongRecord) → check t ≡ v → done (if_admitted (start_admission_of v m) m [] (start_in t)) ≡ true → Begins t m
    cases (Ok c) h e =
        ⊎_elim
        (λ (l : leb memory_size (length m) ≡ true).
        record { table = h ∙ ap Ok (accepted_right t c h).counted; long = leb-true memory_size (length m) l })
        (λ (l : leb memory_size (length m) ≡ false). absurd (not_done (rw l at e)))
        (true_or_false (leb memory_size (length m)))
    cases (Err wrong) h e = absurd (not_done e)

-- a memory that is long enough and refines the book
pub record Follows (t : List ℕ) (c : Counts) (b : Book) (m : List ℕ) : Type 0 where
  pub long : memory_size ≤ length m
  pub agrees : Refines t c b (working_memory m)

follows : (t : List ℕ) (c : Counts) (b : Book) (x m : List ℕ) → Refines t c b x → Follows t c b (x ++ drop memory_size m)
follows t c b x m a =
    record { long = (working_ready t c x m a.ready).long; agrees = rw (front_of x m a.ready.long) a }

-- stopped, as the book has it
stopped_is : (s : Bool) (n : ℕ) → n ≡ pick s 0 1 → eqb n 0 ≡ s
stopped_is true n e = rw e
stopped_is false n e = rw e

-- ---- admitted or refused, as the book has it

-- from the book alone
abbrev pub admission_by : Description → Counts → Book → Admission
admission_by d c b =
    pick d.running (pick (long_enough d.lent) (pick b.stopped (Err Stopped) (Ok c)) (Err WrongMemory)) (Ok c)

pub data Admits (d : Description) (c : Counts) (b : Book) : Type 0 where
  goes : admission_by d c b ≡ Ok c → (d.running ≡ true → long_enough d.lent ≡ true) → goes_on d b ≡ true → Admits d c b
  stays : (r : Refusal) → admission_by d c b ≡ Err r → (number_of (Err r) ≡ 0 → ⊥) → (long_enough d.lent ≡ true → number_of (Err r) ≡ 6 → ⊥)
      → goes_on d b ≡ false → Admits d c b

pub admits : (d : Description) (c : Counts) (b : Book) → Admits d c b
admits d c b = cases d.running (long_enough d.lent) b.stopped refl refl refl
  where
    cases : (r l s : Bool) → d.running ≡ r → long_enough d.lent ≡ l → b.stopped ≡ s → Admits d c b
    cases false l s er el es = goes (rw er) (λ e. absurd (true_not_false e er)) (rw er)
    cases true false s er el es =
        stays WrongMemory (rw (er, el)) (λ e. omega (arith, e)) (λ e. absurd (true_not_false e el)) (rw (er, el))
    cases true true true er el es = stays Stopped (rw (er, el, es)) (λ e. omega (arith, e)) (λ e six. omega (arith, six)) (rw (er, el, es))
    cases true true false er el es = goes (rw (er, el, es)) (λ e. el) (rw (er, el, es))

-- an answer that returns nothing names no I-PDU
no_word : (l : Lent) (a : Answer) → value_of a ≡ 0 → word_in l a ≡ 0
no_word no_area a e = refl
no_word (requests area) a e = e

module _ (t : List ℕ) (c : Counts) (accepted : check t ≡ Ok c) (bt : Bytes t) where
  pub start_follows : (m : List ℕ) → memory_size ≤ length m → Follows t c (opened t c) (step t start m).memory
  unfolding step start_admission
  start_follows m long =
      rw (accepted, le-leb memory_size (length m) long) (follows t c (opened t c) (started t c) m (refines_start t c (accepted_right t c accepted) bt))

  -- working memory after a start
  pub start_memory : (m : List ℕ) → memory_size ≤ length m → working_memory (step t start m).memory ≡ started t c
  unfolding step start_admission
  start_memory m long =
      rw (accepted, le-leb memory_size (length m) long) (front_of (started t c) m (refines_start t c (accepted_right t c accepted) bt).ready.long)

  module _ (b : Book) (m : List ℕ) (f : Follows t c b m) where
    pub admission_is : (d : Description) → admission_for d t m ≡ admission_by d c b
    unfolding admission start_admission
    admission_is d =
        rw (
          accepted,
          le-leb memory_size (length m) f.long,
          ready_in_range t c (working_memory m) f.agrees.ready,
          stopped_is b.stopped (running_at (working_memory m)) f.agrees.running,
        )

    -- ---- one call

    module _ (call : Call) where
      abbrev own : Outcome
      own = (describe call).does t c (working_memory m)

      -- with a long enough area it answers no 6
      pub step_not_6 : long_enough (describe call).lent ≡ true → number_of (step t call m).answer ≡ 6 → ⊥
      unfolding step
      step_not_6 long = rw (admission_is (describe call)) (by (admits (describe call) c b))
        where
          by : Admits (describe call) c b
              → number_of (if_admitted (admission_by (describe call) c b) m (lent_bytes (describe call).lent) ((describe call).does t)).answer ≡ 6 → ⊥
          by (goes e l on) = rw e ((shows t c call).answered (working_memory m)).not_six
          by (stays a e done six off) = rw e (six long)

      -- it is done where it goes on and its own part is done
      step_done : done (step t call m) ≡ (goes_on (describe call) b && done own)
      unfolding step
      step_done = rw (admission_is (describe call)) (by (admits (describe call) c b))
        where
          by : Admits (describe call) c b
              → done (if_admitted (admission_by (describe call) c b) m (lent_bytes (describe call).lent) ((describe call).does t)) ≡ (goes_on (describe call) b && done own)
          by (goes e l on) = rw (e, on)
          by (stays a e done six off) = rw (e, off) (ne_eqb (number_of (Err a)) 0 done)

      pub step_judged : Judged t c b (describe call).told (length (lent_bytes (describe call).lent)) (done (step t call m))
      step_judged =
          subst (Judged t c b (describe call).told (length (lent_bytes (describe call).lent))) (sym step_done)
          ((shows t c call).judged b (working_memory m))

      -- the book goes on where the call is done
      advance_is : advance t c b call ≡ pick (done (step t call m)) (entered t c b (describe call).told) b
      unfolding advance
      advance_is = by (describe call).told (length (lent_bytes (describe call).lent)) (done (step t call m)) step_judged
        where
          both : (went : Bool) → b ≡ pick went b b
          both true = refl
          both false = refl

          by : (told : Told) (n : ℕ) (went : Bool) → Judged t c b told n went → next t c b told n ≡ pick went (entered t c b told) b
          by told_start n went j = rw j
          by told_stop n went j = rw j
          by (told_send i v) n went j = rw j
          by (told_initialise i v) n went j = rw j
          by told_nothing n went j = both went

      module _ (y : Typed call) where
        own_refines : ((describe call).running ≡ true → long_enough (describe call).lent ≡ true)
            → Refines t c (pick (done own) (entered t c b (describe call).told) b) own.memory
        own_refines = (shows t c call).book b (working_memory m) f.agrees y.0 y.1

        pub own_long : ((describe call).running ≡ true → long_enough (describe call).lent ≡ true) → length own.memory ≡ memory_size
        own_long l = (own_refines l).ready.long

        pub step_follows : Follows t c (advance t c b call) (step t call m).memory
        unfolding step
        step_follows = rw (advance_is, admission_is (describe call)) (by (admits (describe call) c b))
          where
            by : Admits (describe call) c b
                → Follows t c
                (pick (done (if_admitted (admission_by (describe call) c b) m (lent_bytes (describe call).lent) ((describe call).does t))) (entered t c b (describe call).told) b)
                (if_admitted (admission_by (describe call) c b) m (lent_bytes (describe call).lent) ((describe call).does t)).memory
            by (goes e l on) = rw e (follows t c _ own.memory m (own_refines l))
            by (stays a e done six off) = rw (e, ne_eqb (number_of (Err a)) 0 done) f

        pub step_frames : FramesInArea t c (word_of call (step t call m).answer) (step t call m).area (working_memory (step t call m).memory)
        unfolding step
        step_frames = rw (admission_is (describe call)) (by (admits (describe call) c b))
          where
            by : Admits (describe call) c b
                → FramesInArea t c
                (word_in (describe call).lent (if_admitted (admission_by (describe call) c b) m (lent_bytes (describe call).lent) ((describe call).does t)).answer)
                (if_admitted (admission_by (describe call) c b) m (lent_bytes (describe call).lent) ((describe call).does t)).area
                (working_memory (if_admitted (admission_by (describe call) c b) m (lent_bytes (describe call).lent) ((describe call).does t)).memory)
            by (goes e l on) = rw (e, front_of own.memory m (own_long l)) ((shows t c call).frames (working_memory m) f.agrees.ready y.0 l)
            by (stays a e done six off) = rw (e, no_word (describe call).lent (Err a) refl) (in_area_zero t c _ _)

  -- ---- a list of calls

  pub list_follows : (calls : List Call) → AllTyped calls → (b : Book) (m : List ℕ) → Follows t c b m
      → Follows t c (book_after t c b calls) (memory_after t calls m)
  list_follows [] y b m f = f
  list_follows (call ∷ calls) y b m f = list_follows calls y.1 (advance t c b call) (step t call m).memory (step_follows b m f call y.0)
