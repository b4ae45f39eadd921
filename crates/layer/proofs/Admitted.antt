-- Admission: what an admitted call may rely on, and what a call leaves, admitted or refused. The laws ask for plain values, so that a
-- search finds them. Assumes nothing.
use Rattle.std.proofs.Common.{Bool, true, false, ◌&&◌, List, ◌++◌, ◌≡◌, refl, sym, ap, ◌∙◌, ℕ, ◌≤◌}
use Rattle.std.proofs.Common.{arith, leb-true, leb, eqb, length, drop, take-append-drop, length-take-le, Err, Ok, Result, eq-eqb, ne_eqb}
use Rattle.std.specs.Result.{IsErrAnd}
use Rattle.std.proofs.lemmas.Result.{err_from_is_err_and}
use lib.Seq.{take-append_seam}
use Rattle.memory.specs.Bytes.{Bytes, part}
use Rattle.memory.proofs.Parts.{part_bytes}
use Rattle.memory.proofs.Search.{picked}
use Rattle.memory.proofs.Tests.{and_split}
use Rattle.table.specs.declared.Counts.{Counts}
use Rattle.table.specs.declared.WrongRecord.{WrongRecord}
use Rattle.table.specs.Check.{check}
use Rattle.table.proofs.Accepted.{accepted_right}
use Rattle.state.specs.Layout.{memory_size, running_at}
use Rattle.state.specs.Ranges.{in_range, Ready}
use Rattle.state.proofs.Ready.{in_range_ready}
use Rattle.calls.specs.Answers.{Answer}
use Rattle.calls.specs.declared.Refusal.{Refusal}
use Rattle.calls.specs.declared.Refusal.TheVariants.{WrongTable, WrongMemory, Stopped}
use Rattle.calls.specs.Answers.{Outcome, outcome}
use Rattle.layer.specs.Admission.{Admission}
use Rattle.layer.specs.Admission.{Open, Admits, working_memory, admission_of, admission, on_working_memory, if_admitted}

pub refused_not : {c : Counts} (r : Refusal) → Err r ≡ Ok c → ⊥
refused_not r e = let z : ◌≡◌ {A = ℕ} 0 1 = cc in omega arith

-- an admission is one of these
module _ (t m : List ℕ) (fits : Bool) where
  pub admission_by_lem : (P : Admission → Type 0) → P (Err WrongTable) → P (Err WrongMemory) → P (Err Stopped)
      → ((c : Counts) → check t ≡ Ok c → (leb memory_size (length m) && fits) ≡ true → in_range t c (working_memory m) ≡ true
      → eqb (running_at (working_memory m)) 0 ≡ false → P (Ok c)) → P (admission t m fits)
  unfolding admission
  admission_by_lem P table memory stopped goes = by (check t) refl
    where
      by : (v : Result Counts WrongRecord) → check t ≡ v → P (admission_of v t m fits)
      by (Err wrong) h = table
      by (Ok c) h =
          picked P (leb memory_size (length m) && fits) _ _
          (λ long. picked P (in_range t c (working_memory m)) _ _ (λ low. picked P (eqb (running_at (working_memory m)) 0) _ _ (λ off. stopped) (goes c h long low)) (λ high. memory))
          (λ short. memory)

-- the table was accepted, and the layer runs
pub record Running (t : List ℕ) (c : Counts) (m : List ℕ) : Type 0 where
  pub accepted : check t ≡ Ok c
  pub on : eqb (running_at m) 0 ≡ false

pub admitted_running : (t m : List ℕ) (fits : Bool) (c : Counts) → admission t m fits ≡ Ok c → Running t c (working_memory m)
admitted_running t m fits c =
    admission_by_lem t m fits (λ a. a ≡ Ok c → Running t c (working_memory m)) (λ e. absurd (refused_not WrongTable e)) (λ e. absurd (refused_not WrongMemory e))
    (λ e. absurd (refused_not Stopped e)) (λ d h long low on e. let same : d ≡ c = cc in record { accepted = h ∙ ap Ok same; on = on })

module _ (t m : List ℕ) (fits : Bool) (bt : Bytes t) (bm : Bytes m) (c : Counts) where
  admission_open : admission t m fits ≡ Ok c → Open t c m fits
  admission_open =
      admission_by_lem t m fits (λ a. a ≡ Ok c → Open t c m fits) (λ e. absurd (refused_not WrongTable e)) (λ e. absurd (refused_not WrongMemory e))
      (λ e. absurd (refused_not Stopped e)) (λ d h long low on e. there d h (and_split (leb memory_size (length m)) fits long) low e)
    where
      there : (d : Counts) → check t ≡ Ok d → (leb memory_size (length m) ≡ true) × (fits ≡ true) → in_range t d (working_memory m) ≡ true → ◌≡◌ {A = Admission} (Ok d) (Ok c)
          → Open t c m fits
      there d h both low same =
          let eq : d ≡ c = cc in
          let long = leb-true memory_size (length m) both.0 in
          let exact : length (working_memory m) ≡ memory_size = length-take-le memory_size m long in
          rw (← eq)
          record {
            long = long;
            exact = sym exact;
            ready = in_range_ready t d (working_memory m) (accepted_right t d h) bt (omega (arith, exact)) (unfold part in part_bytes 0 memory_size m bm) low;
            area = both.1;
          }

pub admits : (t m : List ℕ) (fits : Bool) → Bytes t → Bytes m → (a : Admission) → a ≡ admission t m fits → Admits t m fits a
admits t m fits bt bm a e = record { same = e; opens = λ c f. admission_open t m fits bt bm c (sym e ∙ f) }

pub admits_refused : {t m : List ℕ} {fits : Bool} {r : Refusal} → Err r ≡ admission t m fits → Admits t m fits (Err r)
admits_refused {t} {m} {fits} {r} e = record { same = e; opens = λ c f. absurd (refused_not r f) }

-- ---- what the checks found in turn, and what is answered

pub wrong_table_refused : {t m : List ℕ} {fits : Bool} {wrong : WrongRecord} → check t ≡ Err wrong → Admits t m fits (Err WrongTable)
wrong_table_refused {t} {m} {fits} e = admits_refused (unfold admission in rw e)

module _ {t m : List ℕ} {fits : Bool} {c : Counts} (accepted : check t ≡ Ok c) where
  pub short_refused : (leb memory_size (length m) && fits) ≡ false → Admits t m fits (Err WrongMemory)
  short_refused short = admits_refused (unfold admission in rw (accepted, short))

  module _ (long : (leb memory_size (length m) && fits) ≡ true) where
    pub range_refused : in_range t c (working_memory m) ≡ false → Admits t m fits (Err WrongMemory)
    range_refused out = admits_refused (unfold admission in rw (accepted, long, out))

    module _ (low : in_range t c (working_memory m) ≡ true) where
      pub stopped_refused : running_at (working_memory m) ≡ 0 → Admits t m fits (Err Stopped)
      stopped_refused off = admits_refused (unfold admission in rw (accepted, long, low, eq-eqb _ 0 off))

      pub running_admitted : (running_at (working_memory m) ≡ 0 → ⊥) → Bytes t → Bytes m → Admits t m fits (Ok c)
      running_admitted on bt bm = admits t m fits bt bm (Ok c) (unfold admission in rw (accepted, long, low, ne_eqb _ 0 on))

pub memory_enough : (m : List ℕ) (fits : Bool) → (leb memory_size (length m) && fits) ≡ true → memory_size ≤ length m
memory_enough m fits e = leb-true _ _ (and_split (leb memory_size (length m)) fits (e)).0

module _ (m : List ℕ) (long : memory_size ≤ length m) where
  pub working_length : length (working_memory m) ≡ memory_size
  working_length = length-take-le memory_size m long

  pub working_exact : memory_size ≡ length (working_memory m)
  working_exact = sym working_length

  pub working_long : memory_size ≤ length (working_memory m)
  working_long = omega (arith, working_length)

-- ---- what an admitted call may rely on

module _ {t m : List ℕ} {fits : Bool} {a : Admission} where
  pub admitted_long : {c : Counts} → Admits t m fits a → a ≡ Ok c → memory_size ≤ length m
  admitted_long {c} h e = (h.opens c e).long

  pub admitted_exact : {c : Counts} → Admits t m fits a → a ≡ Ok c → memory_size ≡ length (working_memory m)
  admitted_exact {c} h e = (h.opens c e).exact

  pub admitted_ready : {c : Counts} → Admits t m fits a → a ≡ Ok c → Ready t c (working_memory m)
  admitted_ready {c} h e = (h.opens c e).ready

  pub admitted_some : {c : Counts} → Admits t m fits a → a ≡ Ok c → 1 ≤ length (working_memory m)
  admitted_some {c} h e = omega (arith, (h.opens c e).exact)

module _ {t m : List ℕ} {n l : ℕ} {a : Admission} where
  pub admitted_area : {c : Counts} → Admits t m (leb n l) a → a ≡ Ok c → n ≤ l
  admitted_area {c} h e = leb-true n l (h.opens c e).area

-- ---- the first 8,192 bytes, and the rest

pub front_of : (x m : List ℕ) → length x ≡ memory_size → working_memory (x ++ drop memory_size m) ≡ x
front_of x m e = rw e at (take-append_seam x (drop memory_size m))

pub on_working_memory_lem : (call : List ℕ → Outcome) (m : List ℕ) (a : Answer) (n area : List ℕ) → outcome a n area ≡ call (working_memory m)
    → outcome a (n ++ drop memory_size m) area ≡ on_working_memory call m
on_working_memory_lem call m a n area e = ap (λ (o : Outcome). outcome o.answer (o.memory ++ drop memory_size m) o.area) e

-- a call that changes nothing
pub reads_working_memory : (call : List ℕ → Outcome) (m : List ℕ) (a : Answer) (area : List ℕ)
    → outcome a (working_memory m) area ≡ call (working_memory m) → outcome a m area ≡ on_working_memory call m
reads_working_memory call m a area e =
    ap (λ (n : List ℕ). outcome a n area) (sym (take-append-drop memory_size m)) ∙ on_working_memory_lem call m a (working_memory m) area e

-- ---- what a call leaves: admitted, admitted and only reading, refused

module _ (call : Counts → List ℕ → Outcome) {t m : List ℕ} {fits : Bool} {a : Admission} where
  pub admitted_gives : {c : Counts} (area : List ℕ) {r : Answer} {n after : List ℕ} → Admits t m fits a → a ≡ Ok c
      → outcome r n after ≡ call c (working_memory m)
      → outcome r (n ++ drop memory_size m) after ≡ if_admitted (admission t m fits) m area call
  admitted_gives {c} area {r} {n} {after} h e does = rw (← h.same, e) (on_working_memory_lem (call c) m r n after does)

  pub admitted_reads : {c : Counts} (area : List ℕ) {r : Answer} {after : List ℕ} → Admits t m fits a → a ≡ Ok c
      → outcome r (working_memory m) after ≡ call c (working_memory m) → outcome r m after ≡ if_admitted (admission t m fits) m area call
  admitted_reads {c} area {r} {after} h e does = rw (← h.same, e) (reads_working_memory (call c) m r after does)

  pub refused_gives : {r : Refusal} {area : List ℕ} → Admits t m fits a → a ≡ Err r
      → outcome (Err r) m area ≡ if_admitted (admission t m fits) m area call
  refused_gives h e = rw (← h.same, e)

  -- the same of the answer that `?` makes of the refusal
  pub refused_passed : {r : Refusal} {x : Answer} {area : List ℕ} → Admits t m fits a → a ≡ Err r → IsErrAnd x (λ s. s ≡ r)
      → outcome x m area ≡ if_admitted (admission t m fits) m area call
  refused_passed {r} {x} h e passed = let p = err_from_is_err_and x passed in rw (p.1, p.2) (refused_gives h e)
