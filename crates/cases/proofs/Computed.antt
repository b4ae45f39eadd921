-- A case over calls is computed faster where working memory is exactly as long as what is used of it: nothing is split off and joined
-- again. Each step looks at the length, so the law asks for nothing. Assumes nothing.
use Rattle.std.proofs.Common.{Bool, true, false, List, [], ◌∷◌, append-nil, ⊎_elim, ◌≡◌, refl, ap, sym, ◌∙◌, ℕ, arith, eqb-true, eqb, length, replicate, drop, take_all, Result, Ok, Err}
use lib.Seq.{drop-length}
use Rattle.memory.specs.Search.{pick}
use Rattle.memory.proofs.Tests.{true_or_false}
use Rattle.table.specs.declared.Counts.{Counts}
use Rattle.table.specs.declared.WrongRecord.{WrongRecord}
use Rattle.table.specs.Check.{check}
use Rattle.state.specs.Layout.{memory_size}
use Rattle.layer.specs.Admission.{Admission}
use Rattle.calls.specs.declared.Refusal.TheVariants.{WrongMemory, WrongTable}
use Rattle.calls.specs.Answers.{Outcome, outcome}
use Rattle.layer.specs.Admission.{working_memory, admission_front, admission_of, admission, start_admission, if_admitted}
use Rattle.layer.specs.Step.{Call, lent_bytes, long_enough, describe, step, run}
use Rattle.cases.specs.Case.{Case, packs, fits, passing, counting, checks, answers, calls_of, expected, answered, Holds, AllHold}

-- ---- a call on memory of exactly 8,192 bytes

abbrev admission_exact : Result Counts WrongRecord → List ℕ → List ℕ → Bool → Admission
admission_exact (Ok c) t m enough = pick enough (admission_front c t m) (Err WrongMemory)
admission_exact (Err wrong) t m enough = Err WrongTable

abbrev if_admitted_exact : Admission → List ℕ → List ℕ → (Counts → List ℕ → Outcome) → Outcome
if_admitted_exact (Ok c) m area call = call c m
if_admitted_exact (Err r) m area call = outcome (Err r) m area

abbrev admission_for_exact : List ℕ → Call → List ℕ → Admission
admission_for_exact t call m =
    pick (describe call).running (admission_exact (check t) t m (long_enough (describe call).lent)) (start_admission t m)

abbrev step_exact : List ℕ → Call → List ℕ → Outcome
step_exact t call m = if_admitted_exact (admission_for_exact t call m) m (lent_bytes (describe call).lent) ((describe call).does t)

module _ (t m : List ℕ) (long : length m ≡ memory_size) where
  whole : working_memory m ≡ m
  whole = take_all memory_size m (omega (arith, long))

  none_after : drop memory_size m ≡ []
  none_after = ap (λ (n : ℕ). drop n m) (sym long) ∙ drop-length m

  admission_exact_lem : (v : Result Counts WrongRecord) (enough : Bool) → admission_of v t m enough ≡ admission_exact v t m enough
  admission_exact_lem (Ok c) enough = rw (long, whole) refl
  admission_exact_lem (Err wrong) enough = refl

  admitted_exact : (a : Admission) (area : List ℕ) (call : Counts → List ℕ → Outcome) → if_admitted a m area call ≡ if_admitted_exact a m area call
  admitted_exact (Ok c) area call =
      rw (whole, none_after) (ap (λ (l : List ℕ). outcome (call c m).answer l (call c m).area) (append-nil (call c m).memory))
  admitted_exact (Err a) area call = refl

  step_exact_lem : (call : Call) → step t call m ≡ step_exact t call m
  unfolding step admission
  step_exact_lem call =
      rw (admission_exact_lem (check t) (long_enough (describe call).lent))
      (admitted_exact (admission_for_exact t call m) (lent_bytes (describe call).lent) ((describe call).does t))

-- ---- lists of calls

abbrev pub step_fast : List ℕ → Call → List ℕ → Outcome
step_fast t call m = pick (eqb (length m) memory_size) (step_exact t call m) (step t call m)

pub step_fast_lem : (t : List ℕ) (call : Call) (m : List ℕ) → step t call m ≡ step_fast t call m
step_fast_lem t call m =
    ⊎_elim
    (λ (e : eqb (length m) memory_size ≡ true). rw e (step_exact_lem t m (eqb-true (length m) memory_size e) call))
    (λ (e : eqb (length m) memory_size ≡ false). rw e refl)
    (true_or_false (eqb (length m) memory_size))

abbrev pub run_fast : List ℕ → List Call → List ℕ → List Outcome
run_fast t [] m = []
run_fast t (call ∷ calls) m = step_fast t call m ∷ run_fast t calls (step_fast t call m).memory

pub run_fast_lem : (t : List ℕ) (calls : List Call) (m : List ℕ) → run t calls m ≡ run_fast t calls m
run_fast_lem t [] m = refl
run_fast_lem t (call ∷ calls) m =
    ap (λ (o : Outcome). o ∷ run t calls o.memory) (step_fast_lem t call m)
    ∙ ap (λ (os : List Outcome). step_fast t call m ∷ os) (run_fast_lem t calls (step_fast t call m).memory)

-- ---- cases

abbrev pub Computes : Case → Type 0
Computes (packs o signed n size v L f back) = Holds (packs o signed n size v L f back)
Computes (fits o n size L answer) = Holds (fits o n size L answer)
Computes (passing signed filter first second old occurrence values passed) = Holds (passing signed filter first second old occurrence values passed)
Computes (counting filter first second counts) = Holds (counting filter first second counts)
Computes (checks table verdict) = Holds (checks table verdict)
Computes (answers table lines) = answered lines (run_fast table (calls_of lines) (replicate memory_size 165)) ≡ expected lines

holds : (c : Case) → Computes c → Holds c
holds (packs o signed n size v L f back) e = e
holds (fits o n size L answer) e = e
holds (passing signed filter first second old occurrence values passed) e = e
holds (counting filter first second counts) e = e
holds (checks table verdict) e = e
holds (answers table lines) e = ap (answered lines) (run_fast_lem table (calls_of lines) (replicate memory_size 165)) ∙ e

abbrev pub AllCompute : List Case → Type 0
AllCompute [] = Unit {0}
AllCompute (c ∷ cs) = Computes c × AllCompute cs

pub all_hold : (cs : List Case) → AllCompute cs → AllHold cs
all_hold [] e = tt
all_hold (c ∷ cs) e = (holds c e.0, all_hold cs e.1)
