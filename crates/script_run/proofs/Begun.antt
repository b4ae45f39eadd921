-- The memory that a run begins from is that of a stopped layer with every stored number in its range, and depends on the table alone.
-- Assumes: the table was accepted and holds bytes, and memory is long enough.
use Rattle.std.proofs.Common.{true, List, ◌++◌, ◌≡◌, ap, ◌∙◌, ℕ, ◌≤◌, arith, le-leb, length, drop, Ok, Err}
use lib.Seq.{drop-append_seam}
use Rattle.memory.specs.Bytes.{Bytes}
use Rattle.table.specs.declared.Counts.{Counts}
use Rattle.table.specs.Check.{check}
use Rattle.table.proofs.Accepted.{accepted_right}
use Rattle.state.specs.Layout.{memory_size, running_at, with_running}
use Rattle.state.specs.Ranges.{Ready}
use Rattle.state.proofs.Ready.{ready_in_range}
use Rattle.state.proofs.Running.{running_stored, ready_running}
use Rattle.calls.specs.declared.Refusal.TheVariants.{Stopped}
use Rattle.calls.specs.Calls.{stop_in}
use Rattle.layer.specs.Admission.{working_memory, admission, start_admission}
use Rattle.startup.specs.Start.{prepared, started}
use Rattle.layer.specs.Step.{start, stop, step}
use Rattle.layer.proofs.Admitted.{front_of}
use Rattle.layer.proofs.ReadyKept.{start_ready, WorkingReady, working_ready}
use Rattle.startup.proofs.StartInRange.{prepared_ready}
use Rattle.script_run.specs.Script.{begun}

module _ (t : List ℕ) (c : Counts) (accepted : check t ≡ Ok c) where
  -- a memory in range: 7 where the layer is stopped, else admitted
  stopped_admission : (m : List ℕ) → WorkingReady t c m → running_at (working_memory m) ≡ 0 → admission t m true ≡ Err Stopped
  unfolding admission
  stopped_admission m w off =
      rw (accepted, le-leb memory_size (length m) w.long, ready_in_range t c (working_memory m) w.ready, off)

  running_admission : (m : List ℕ) → WorkingReady t c m → running_at (working_memory m) ≡ 1 → admission t m true ≡ Ok c
  unfolding admission
  running_admission m w on =
      rw (accepted, le-leb memory_size (length m) w.long, ready_in_range t c (working_memory m) w.ready, on)

  module _ (bt : Bytes t) where
    ready : Ready t c (started t c)
    ready = start_ready t c (accepted_right t c accepted) bt

    ready_stopped : Ready t c (with_running (started t c) 0)
    ready_stopped = ready_running t c (started t c) ready 0 (omega arith)

    started_runs : running_at (started t c) ≡ 1
    unfolding started
    started_runs = running_stored (prepared t c) 1 (prepared_ready t c (accepted_right t c accepted) bt).long (omega arith)

    module _ (m : List ℕ) (long : memory_size ≤ length m) where
      started_memory : (step t start m).memory ≡ started t c ++ drop memory_size m
      unfolding step start_admission
      started_memory = rw (accepted, le-leb memory_size (length m) long)

      -- a start and a stop, whatever lay in memory before: what is used of it depends on the table alone
      pub begun_memory : begun t m ≡ with_running (started t c) 0 ++ drop memory_size m
      unfolding step stop_in
      begun_memory =
          let after : List ℕ = started t c ++ drop memory_size m in
          let front = front_of (started t c) m ready.long in
          let runs : running_at (working_memory after) ≡ 1 = ap running_at front ∙ started_runs in
          let behind : drop memory_size after ≡ drop memory_size m = rw ready.long at (drop-append_seam (started t c) (drop memory_size m)) in
          ap (λ (x : List ℕ). (step t stop x).memory) started_memory ∙ rw (running_admission after (working_ready t c (started t c) m ready) runs, front, behind)

      -- every call but a start answers 7
      pub begun_stopped : admission t (begun t m) true ≡ Err Stopped
      begun_stopped =
          let x : List ℕ = with_running (started t c) 0 in
          let off : running_at (working_memory (x ++ drop memory_size m)) ≡ 0 =
          ap running_at (front_of x m ready_stopped.long) ∙ running_stored (started t c) 0 ready.long (omega arith) in
          ap (λ (y : List ℕ). admission t y true) begun_memory ∙ stopped_admission (x ++ drop memory_size m) (working_ready t c x m ready_stopped) off
