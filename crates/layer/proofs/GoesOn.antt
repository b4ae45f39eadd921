-- A call that is not refused before it looks at its own numbers: the table is right, memory in range and the layer runs. The laws of the calls
-- about one object ask for plain values, so that a search finds them. Assumes nothing.
use Rattle.std.proofs.Common.{Bool, true, false, List, ◌++◌, ◌≡◌, refl, sym, ap, ◌∙◌, ℕ, ◌≤◌, ◌<◌, arith, leb, eqb, length, drop, Ok, Err, Result}
use Rattle.std.specs.Result.{IsErrAnd}
use Rattle.std.proofs.lemmas.Result.{err_from_is_err_and}
use Rattle.memory.proofs.Tests.{and_false, true_not_false}
use Rattle.table.specs.declared.Counts.{Counts}
use Rattle.table.specs.Records.{counts}
use Rattle.table.specs.Check.{Shape, check}
use Rattle.table.proofs.Accepted.{accepted_right}
use Rattle.state.specs.Layout.{memory_size, running_at}
use Rattle.state.specs.Ranges.{Ready}
use Rattle.calls.specs.declared.Refusal.{Refusal}
use Rattle.calls.specs.Answers.{outcome, Answer}
use Rattle.layer.specs.Admission.{Admission}
use Rattle.layer.specs.Admission.{Open, Admits, working_memory, admission, on_working_memory}
use Rattle.layer.specs.Step.{Call, long_enough, describe, step}
use Rattle.layer.specs.Promises.{refusal_of, refusal, Goes, answered, replied_of}
use Rattle.layer.proofs.Admitted.{admission_by_lem, admits, on_working_memory_lem, reads_working_memory}

-- ---- what is found where a call goes on

pub record Found (t m : List ℕ) : Type 0 where
  pub table : check t ≡ Ok (counts t)
  pub admitted : admission t m true ≡ Ok (counts t)
  pub running : eqb (running_at (working_memory m)) 0 ≡ false

found : (t m : List ℕ) → refusal t m true ≡ 0 → Found t m
unfolding refusal
found t m e =
    admission_by_lem t m true (λ a. a ≡ admission t m true → refusal_of a ≡ 0 → Found t m) (λ s e. absurd (not_0 5 (omega arith) e)) (λ s e. absurd (not_0 6 (omega arith) e))
    (λ s e. absurd (not_0 7 (omega arith) e))
    (λ c h long low on s e.
    let same = (accepted_right t c h).counted in
    record { table = h ∙ ap Ok same; admitted = sym s ∙ ap Ok same; running = on })
    refl e
  where
    not_0 : (n : ℕ) → 0 < n → n ≡ 0 → ⊥
    not_0 n some e = omega (arith, some, e)

-- what is too short or out of range is refused, with 5 or 6
pub refused_unfit : (t m : List ℕ) → refusal t m false ≡ 0 → ⊥
unfolding refusal
refused_unfit t m =
    admission_by_lem t m false (λ a. refusal_of a ≡ 0 → ⊥) (λ e. omega (arith, e)) (λ e. omega (arith, e)) (λ e. omega (arith, e))
    (λ c h long low on e. true_not_false long (and_false (leb memory_size (length m))))

module _ {t m : List ℕ} (goes : Goes t m) where
  pub found_here : Found t m
  found_here = found t m goes.on

  open_here : Open t (counts t) m true
  open_here = (admits t m true goes.table goes.memory (admission t m true) refl).opens (counts t) found_here.admitted

  pub ready_here : Ready t (counts t) (working_memory m)
  ready_here = open_here.ready

  -- ---- what the functions behind the checks ask for

  pub goes_header : 16 ≤ length t
  goes_header = omega (arith, open_here.ready.right.shape.long)

  pub goes_long : memory_size ≤ length m
  goes_long = open_here.long

  pub goes_exact : memory_size ≡ length (working_memory m)
  goes_exact = open_here.exact

  pub goes_ready : {c : Counts} → c ≡ counts t → Ready t c (working_memory m)
  goes_ready same = rw same open_here.ready

  pub goes_shape : {c : Counts} → c ≡ counts t → Shape t c
  goes_shape same = (goes_ready same).right.shape

-- ---- what a call gives

module _ (call : Call) (runs : (describe call).running ≡ true) (long : long_enough (describe call).lent ≡ true) {t m : List ℕ} (goes : Goes t m) where
  -- its own part, on the first 8,192 bytes
  pub own_part : step t call m ≡ on_working_memory ((describe call).does t (counts t)) m
  unfolding step
  own_part = rw (runs, long, (found_here goes).admitted)

  pub goes_gives : (c : Counts) (a : Answer) (n area : List ℕ) → c ≡ counts t
      → outcome a n area ≡ (describe call).does t c (working_memory m) → answered a (n ++ drop memory_size m) ≡ replied_of (step t call m)
  goes_gives c a n area same does = rw (own_part, ← same) (ap replied_of (on_working_memory_lem ((describe call).does t c) m a n area does))

  pub goes_reads : (c : Counts) (a : Answer) (area : List ℕ) → c ≡ counts t
      → outcome a (working_memory m) area ≡ (describe call).does t c (working_memory m) → answered a m ≡ replied_of (step t call m)
  goes_reads c a area same does = rw (own_part, ← same) (ap replied_of (reads_working_memory ((describe call).does t c) m a area does))

-- ---- whether it goes on

pub goes_when : {t m : List ℕ} {fits : Bool} {a : Admission} {c : Counts} → Admits t m fits a → a ≡ Ok c → 0 ≡ refusal t m fits
unfolding refusal
goes_when h e = rw (← h.same, e)

-- as `?` passes the refusal on
pub refused_when : {t m : List ℕ} {fits : Bool} {a : Admission} {r : Refusal} (x : Result (Unit {0}) Refusal) → Admits t m fits a → a ≡ Err r
    → IsErrAnd x (λ s. s ≡ r) → refusal_of x ≡ refusal t m fits
unfolding refusal
refused_when x h e passed = let p = err_from_is_err_and x passed in rw (← h.same, e, p.1, p.2)
