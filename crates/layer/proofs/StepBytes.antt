-- A call over bytes leaves bytes, admitted or refused.
-- Assumes: a value that is told has 32 bits, and an indication is lent bytes (`Typed`).
use Rattle.std.proofs.Common.{Bool, true, List, [], ◌++◌, ◌≡◌, refl, ℕ, ◌+◌, ◌^◌, ◌<◌, leb, length, drop, get_or-drop, Ok, Result, Err}
use Rattle.memory.specs.Bytes.{Bytes}
use Rattle.memory.proofs.Parts.{append_bytes}
use Rattle.memory.proofs.Search.{picked}
use Rattle.table.specs.declared.Counts.{Counts}
use Rattle.table.specs.declared.WrongRecord.{WrongRecord}
use Rattle.table.specs.Check.{check}
use Rattle.table.proofs.Accepted.{accepted_right}
use Rattle.state.specs.Layout.{memory_size}
use Rattle.state.specs.Ranges.{Ready}
use Rattle.startup.specs.Start.{started, start_in}
use Rattle.layer.specs.Admission.{Admission}
use Rattle.layer.specs.Admission.{working_memory, admission, start_admission_of, start_admission, if_admitted}
use Rattle.layer.specs.Step.{Call, start, stop, send, initialise, receive, status, marks, clear_marks, start_periodic, stop_periodic, indication, confirm, tick}
use Rattle.layer.specs.Step.{Told, lent_bytes, long_enough, told_send, told_initialise, Small, Typed, describe, step}
use Rattle.layer.proofs.Admitted.{admits}
use Rattle.layer.proofs.ReadyKept.{start_ready, own_ready}

small_sent : {told : Told} → Small told → (i v : ℕ) → told ≡ told_send i v → v < 2 ^ 32
small_sent small i v e = rw e at small

small_set : {told : Told} → Small told → (i v : ℕ) → told ≡ told_initialise i v → v < 2 ^ 32
small_set small i v e = rw e at small

-- the bytes behind those that are used
with_rest_lem : (x m : List ℕ) → Bytes x → Bytes m → Bytes (x ++ drop memory_size m)
with_rest_lem x m bx bm = append_bytes x (drop memory_size m) bx (λ i. rw (get_or-drop memory_size m i 0) (bm (memory_size + i)))

module _ (t : List ℕ) (call : Call) (m : List ℕ) (bt : Bytes t) (bm : Bytes m) (y : Typed call) where
  abbrev After : Admission → Type 0
  After a = Bytes (if_admitted a m (lent_bytes (describe call).lent) ((describe call).does t)).memory

  own_bytes : (c : Counts) → Ready t c ((describe call).does t c (working_memory m)).memory → After (Ok c)
  own_bytes c ready = with_rest_lem ((describe call).does t c (working_memory m)).memory m ready.bytes bm

  running_bytes : (fits : Bool) → After (admission t m fits)
  running_bytes fits = by (admission t m fits) refl
    where
      by : (a : Admission) → a ≡ admission t m fits → After a
      by (Err r) e = bm
      by (Ok c) e =
          own_bytes c (own_ready t c call (working_memory m) ((admits t m fits bt bm (Ok c) e).opens c refl).ready (small_sent y.0) (small_set y.0) y.1)

  pub step_bytes : (describe call).running ≡ true → Bytes (step t call m).memory
  unfolding step
  step_bytes runs = rw runs (running_bytes (long_enough (describe call).lent))

-- a start writes all that is used
pub start_bytes : (t m : List ℕ) → Bytes t → Bytes m → Bytes (step t start m).memory
unfolding step start_admission
start_bytes t m bt bm = by (check t) refl
  where
    by : (v : Result Counts WrongRecord) → check t ≡ v → Bytes (if_admitted (start_admission_of v m) m [] (start_in t)).memory
    by (Err wrong) h = bm
    by (Ok c) h =
        picked (λ (a : Admission). Bytes (if_admitted a m [] (start_in t)).memory) (leb memory_size (length m)) _ _
        (λ long. with_rest_lem (started t c) m (start_ready t c (accepted_right t c h) bt).bytes bm)
        (λ short. bm)

pub call_bytes : (t : List ℕ) (call : Call) (m : List ℕ) → Bytes t → Bytes m → Typed call → Bytes (step t call m).memory
call_bytes t start m bt bm y = start_bytes t m bt bm
call_bytes t stop m bt bm y = step_bytes t stop m bt bm y refl
call_bytes t (send i v area) m bt bm y = step_bytes t (send i v area) m bt bm y refl
call_bytes t (initialise i v) m bt bm y = step_bytes t (initialise i v) m bt bm y refl
call_bytes t (receive i) m bt bm y = step_bytes t (receive i) m bt bm y refl
call_bytes t (status i) m bt bm y = step_bytes t (status i) m bt bm y refl
call_bytes t (marks i) m bt bm y = step_bytes t (marks i) m bt bm y refl
call_bytes t (clear_marks i) m bt bm y = step_bytes t (clear_marks i) m bt bm y refl
call_bytes t start_periodic m bt bm y = step_bytes t start_periodic m bt bm y refl
call_bytes t stop_periodic m bt bm y = step_bytes t stop_periodic m bt bm y refl
call_bytes t (indication k good f) m bt bm y = step_bytes t (indication k good f) m bt bm y refl
call_bytes t (confirm k good) m bt bm y = step_bytes t (confirm k good) m bt bm y refl
call_bytes t (tick area) m bt bm y = step_bytes t (tick area) m bt bm y refl
