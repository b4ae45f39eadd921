-- Demand 1 over calls, groups and lists of them: a refused one leaves all lent bytes; after an accepted start none meets a number out of
-- its range; memory that was never started does not run.
-- Assumes nothing; `never_6` that the table holds bytes and that arguments are of the types that the calls take (`TypedAction`).
use Rattle.std.proofs.Common.{Bool, true, false, ◌&&◌, List, [], ◌∷◌, ◌++◌, inl, inr, ⊎_elim, ◌≡◌, refl, ap, ◌∙◌, ℕ, zero, suc, leb, length, drop, replicate, take-append-drop, Ok, Err, Result}
use Rattle.memory.specs.Bytes.{Bytes, value, part, number_at}
use Rattle.memory.proofs.Search.{picked}
use Rattle.memory.proofs.Tests.{true_or_false}
use Rattle.table.specs.declared.Counts.{Counts}
use Rattle.table.specs.declared.WrongRecord.{WrongRecord}
use Rattle.table.specs.Check.{check}
use Rattle.table.specs.Records.{counts}
use Rattle.state.specs.Layout.{memory_size, area_size, running_at}
use Rattle.state.specs.Ranges.{in_range}
use Rattle.calls.specs.declared.Refusal.{Refusal}
use Rattle.calls.specs.declared.Refusal.TheVariants.{WrongTable, WrongMemory, Stopped}
use Rattle.calls.specs.Answers.{number_of}
use Rattle.layer.specs.Admission.{Admission}
use Rattle.layer.specs.Admission.{working_memory, admission_of, admission, if_admitted}
use Rattle.layer.specs.Step.{Call, start, lent_bytes, long_enough, describe, admission_for, step}
use Rattle.group.specs.Groups.{Group, GroupOutcome, well_formed, if_group_admitted, group_step}
use Rattle.trace.specs.Book.{Book, opened}
use Rattle.trace.specs.Actions.{Action, single, group, answer_of, leaves, asks_running, area_fits, advance_by}
use Rattle.trace.specs.Demand3.{ActionsTyped, done}
use Rattle.trace.specs.Refusals.{Unchanged, IsRefused, GroupUnchanged, Never6, NotAdmitted}
use Rattle.trace.proofs.Shows.{shows}
use Rattle.trace.proofs.Steps.{start_accepted, Follows, start_follows, step_not_6}
use Rattle.trace.proofs.GroupSends.{group_not_6}
use Rattle.trace.proofs.ActionsKept.{action_follows}

-- ---- a refused call

pub refused_leaves : (t : List ℕ) (call : Call) (m : List ℕ) → IsRefused call (step t call m) → Unchanged m (lent_bytes (describe call).lent) (step t call m)
unfolding step
refused_leaves t call m r = by (admission_for (describe call) t m) r
  where
    by : (a : Admission) → IsRefused call (if_admitted a m (lent_bytes (describe call).lent) ((describe call).does t))
        → Unchanged m (lent_bytes (describe call).lent) (if_admitted a m (lent_bytes (describe call).lent) ((describe call).does t))
    by (Ok c) r =
        let u = ((shows t c call).answered (working_memory m)).leaves r in
        record { memory = ap (λ (n : List ℕ). n ++ drop memory_size m) u.memory ∙ take-append-drop memory_size m; area = u.area }
    by (Err a) r = record { memory = refl; area = refl }

-- a refused group: no number but 0 leaves anything changed
pub refused_group_leaves : (t : List ℕ) (g : Group) (m : List ℕ) → (number_of (group_step t g m).answer ≡ 0 → ⊥) → GroupUnchanged m g (group_step t g m)
unfolding group_step
refused_group_leaves t g m = by (admission t m (leb area_size (length g.area)))
  where
    by : (a : Admission) → (number_of (if_group_admitted a t g m).answer ≡ 0 → ⊥) → GroupUnchanged m g (if_group_admitted a t g m)
    by (Ok c) =
        picked (λ (o : GroupOutcome). (number_of o.answer ≡ 0 → ⊥) → GroupUnchanged m g o) (well_formed g) _ _
        (λ e some. absurd (some refl)) (λ e some. record { memory = refl; area = refl; statuses = refl })
    by (Err a) = λ some. record { memory = refl; area = refl; statuses = refl }

-- ---- after a start

-- every list of calls and groups that begins with an accepted start
pub never_6 : (t : List ℕ) → Bytes t → (xs : List Action) → ActionsTyped xs → (m : List ℕ) → done (step t start m) ≡ true
    → Never6 t xs (step t start m).memory
never_6 t bt xs y m e =
    let a = start_accepted t m e in
    after xs y a.table (opened t (counts t)) (step t start m).memory (start_follows t (counts t) a.table bt m a.long)
  where
    not_6 : check t ≡ Ok (counts t) → (b : Book) (m : List ℕ) → Follows t (counts t) b m → (x : Action)
        → area_fits x ≡ true → number_of (answer_of t x m) ≡ 6 → ⊥
    not_6 right b m f (single call) = step_not_6 t (counts t) right bt b m f call
    not_6 right b m f (group g) = group_not_6 t (counts t) right bt b g m f

    after : (xs : List Action) → ActionsTyped xs → check t ≡ Ok (counts t) → (b : Book) (m : List ℕ) → Follows t (counts t) b m → Never6 t xs m
    after [] y right b m f = tt
    after (x ∷ xs) y right b m f = (
      not_6 right b m f x,
      after xs y.1 right (advance_by t (counts t) b x) (leaves t x m) (action_follows t (counts t) right bt b m f x y.0),
    )

-- ---- before a start

-- a refusal with 5, 6 or 7
data Refuses (a : Admission) : Type 0 where
  refuses : (r : Refusal) → a ≡ Err r → NotAdmitted (Err r) → Refuses a

stopped_admission : (t m : List ℕ) (fits : Bool) → running_at (working_memory m) ≡ 0 → Refuses (admission t m fits)
unfolding admission
stopped_admission t m fits off = by (check t)
  where
    by : (v : Result Counts WrongRecord) → Refuses (admission_of v t m fits)
    by (Ok c) =
        ⊎_elim
        (λ (l : (leb memory_size (length m) && fits) ≡ true).
        ⊎_elim
        (λ (r : in_range t c (working_memory m) ≡ true). refuses Stopped (rw (l, r, off)) (inr (inr refl)))
        (λ (r : in_range t c (working_memory m) ≡ false). refuses WrongMemory (rw (l, r)) (inr (inl refl)))
        (true_or_false (in_range t c (working_memory m))))
        (λ (l : (leb memory_size (length m) && fits) ≡ false). refuses WrongMemory (rw l) (inr (inl refl)))
        (true_or_false (leb memory_size (length m) && fits))
    by (Err wrong) = refuses WrongTable refl (inl refl)

call_refused : (t : List ℕ) (call : Call) (m : List ℕ) → (describe call).running ≡ true → running_at (working_memory m) ≡ 0 → NotAdmitted (step t call m).answer
unfolding step
call_refused t call m asks off = rw asks (by (stopped_admission t m (long_enough (describe call).lent) off))
  where
    by : Refuses (admission t m (long_enough (describe call).lent))
        → NotAdmitted (if_admitted (admission t m (long_enough (describe call).lent)) m (lent_bytes (describe call).lent) ((describe call).does t)).answer
    by (refuses r e is) = rw e is

group_refused : (t : List ℕ) (g : Group) (m : List ℕ) → running_at (working_memory m) ≡ 0 → NotAdmitted (group_step t g m).answer
unfolding group_step
group_refused t g m off = by (stopped_admission t m (leb area_size (length g.area)) off)
  where
    by : Refuses (admission t m (leb area_size (length g.area))) → NotAdmitted (if_group_admitted (admission t m (leb area_size (length g.area))) t g m).answer
    by (refuses r e is) = rw e is

-- a layer that does not run admits no call but start, and no group, whatever else memory holds
pub stopped_refuses : (t : List ℕ) (x : Action) (m : List ℕ) → asks_running x ≡ true → running_at (working_memory m) ≡ 0 → NotAdmitted (answer_of t x m)
stopped_refuses t (single call) m asks off = call_refused t call m asks off
stopped_refuses t (group g) m asks off = group_refused t g m off

zeros_stopped : (n : ℕ) → running_at (working_memory (replicate n 0)) ≡ 0
unfolding running_at number_at part value
zeros_stopped zero = refl
zeros_stopped (suc n) = refl

-- memory of zeros, of any length: every call but start and every group is refused
pub zeros_refuse : (t : List ℕ) (x : Action) (n : ℕ) → asks_running x ≡ true → NotAdmitted (answer_of t x (replicate n 0))
zeros_refuse t x n asks = stopped_refuses t x (replicate n 0) asks (zeros_stopped n)
