-- A start leaves every stored number in its range, each call keeps them there, and so does a step over any lent memory.
-- Assumes: the table was accepted and holds bytes, a value that is told has 32 bits, and an indication is lent bytes.
use Rattle.std.proofs.Common.{true, false, ◌&&◌, List, ◌++◌, ◌≡◌, refl, ℕ, ◌^◌, ◌≤◌, ◌<◌, arith, leb, eqb, length, drop, length-append, Ok}
use Rattle.memory.specs.Bytes.{Bytes}
use Rattle.memory.proofs.Search.{picked}
use Rattle.table.specs.declared.Counts.{Counts}
use Rattle.table.specs.Check.{check, Right}
use Rattle.state.specs.Layout.{memory_size, running_at}
use Rattle.state.specs.Ranges.{in_range, Ready}
use Rattle.state.proofs.Running.{ready_running}
use Rattle.calls.proofs.ReadyKept.{ready_stop, ready_send, ready_initialise, ready_receive, ready_status, ready_marks, ready_clear_marks, ready_periodic}
use Rattle.calls.proofs.ReadyKept.{ready_indication, ready_confirm, ready_tick}
use Rattle.layer.specs.Admission.{Admission}
use Rattle.layer.specs.Admission.{working_memory, admission, start_admission, if_admitted}
use Rattle.startup.specs.Start.{prepared, started}
use Rattle.layer.specs.Step.{Call, start, stop, send, initialise, receive, status, marks, clear_marks, start_periodic, stop_periodic, indication, confirm, tick}
use Rattle.layer.specs.Step.{lent_bytes, long_enough, told_send, told_initialise, describe, step}
use Rattle.layer.proofs.Admitted.{front_of}
use Rattle.startup.proofs.StartInRange.{prepared_ready}

pub start_ready : (t : List ℕ) (c : Counts) → Right t c → Bytes t → Ready t c (started t c)
unfolding started
start_ready t c right bt = ready_running t c (prepared t c) (prepared_ready t c right bt) 1 (omega arith)

-- what a call does itself, over a memory in range
pub own_ready : (t : List ℕ) (c : Counts) (call : Call) (m : List ℕ) → Ready t c m
    → ((i v : ℕ) → (describe call).told ≡ told_send i v → v < 2 ^ 32) → ((i v : ℕ) → (describe call).told ≡ told_initialise i v → v < 2 ^ 32)
    → Bytes (describe call).bytes → Ready t c ((describe call).does t c m).memory
own_ready t c start m ready sent set bytes = start_ready t c ready.right ready.tables
own_ready t c stop m ready sent set bytes = ready_stop t c m ready
own_ready t c (send i v area) m ready sent set bytes = ready_send t c m ready i v (sent i v refl) area
own_ready t c (initialise i v) m ready sent set bytes = ready_initialise t c m ready i v (set i v refl)
own_ready t c (receive i) m ready sent set bytes = ready_receive t c m ready i
own_ready t c (status i) m ready sent set bytes = ready_status t c m ready i
own_ready t c (marks i) m ready sent set bytes = ready_marks t c m ready i
own_ready t c (clear_marks i) m ready sent set bytes = ready_clear_marks t c m ready i
own_ready t c start_periodic m ready sent set bytes = ready_periodic t c m ready true
own_ready t c stop_periodic m ready sent set bytes = ready_periodic t c m ready false
own_ready t c (indication k good f) m ready sent set bytes = ready_indication t c m ready k good f bytes
own_ready t c (confirm k good) m ready sent set bytes = ready_confirm t c m ready k good
own_ready t c (tick area) m ready sent set bytes = ready_tick t c m ready area

-- a memory that is long enough, and in range
pub record WorkingReady (t : List ℕ) (c : Counts) (m : List ℕ) : Type 0 where
  pub long : memory_size ≤ length m
  pub ready : Ready t c (working_memory m)

pub working_ready : (t : List ℕ) (c : Counts) (x m : List ℕ) → Ready t c x → WorkingReady t c (x ++ drop memory_size m)
working_ready t c x m ready =
    record {
      long = omega (arith, length-append x (drop memory_size m), ready.long);
      ready = rw (front_of x m ready.long) ready;
    }

-- a step, admitted or refused
pub step_ready : (t : List ℕ) (c : Counts) → check t ≡ Ok c → (call : Call) (m : List ℕ) → WorkingReady t c m
    → ((i v : ℕ) → (describe call).told ≡ told_send i v → v < 2 ^ 32) → ((i v : ℕ) → (describe call).told ≡ told_initialise i v → v < 2 ^ 32)
    → Bytes (describe call).bytes → WorkingReady t c (step t call m).memory
unfolding step admission start_admission
step_ready t c accepted call m w sent set bytes =
    rw accepted
    (picked Kept (describe call).running _ _
    (λ e.
    picked Kept (leb memory_size (length m) && long_enough (describe call).lent) _ _
    (λ l. picked Kept (in_range t c (working_memory m)) _ _ (λ r. picked Kept (eqb (running_at (working_memory m)) 0) _ _ (λ z. w) (λ z. own)) (λ r. w)) (λ l. w))
    (λ e. picked Kept (leb memory_size (length m)) _ _ (λ l. own) (λ l. w)))
  where
    Kept : Admission → Type 0
    Kept a = WorkingReady t c (if_admitted a m (lent_bytes (describe call).lent) ((describe call).does t)).memory

    own : WorkingReady t c (((describe call).does t c (working_memory m)).memory ++ drop memory_size m)
    own = working_ready t c ((describe call).does t c (working_memory m)).memory m (own_ready t c call (working_memory m) w.ready sent set bytes)
