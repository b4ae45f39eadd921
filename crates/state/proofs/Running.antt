-- Storing whether the layer runs changes byte 0 alone, and keeps every number in its range.
-- Assumes nothing.
use Rattle.std.proofs.Common.{List, inr, ◌≡◌, ℕ, ◌+◌, ◌%◌, ◌≤◌, ◌<◌, arith, le-leb, length}
use Rattle.memory.specs.Bytes.{bytes_of, part, number_at, replaced}
use Rattle.memory.proofs.Parts.{bytes_of_length, bytes_of_bytes, part_apart, replaced_length, replaced_bytes, number_replaced}
use Rattle.table.specs.declared.Counts.{Counts}
use Rattle.state.specs.Layout.{memory_size, running_at, with_running, ipdu_row, object_row, object_state}
use Rattle.state.specs.Ranges.{Ready}
use Rattle.state.proofs.RowLaws.{ipdu_read, object_read}

module _ (m : List ℕ) (on : ℕ) (long : length m ≡ memory_size) where
  pub running_stored : on < 256 → running_at (with_running m on) ≡ on
  unfolding running_at with_running number_at
  running_stored small =
      let low : number_at 1 0 (replaced 0 (bytes_of 1 on) m) ≡ on % 256 = number_replaced 1 0 on m (omega (arith, long)) in
      omega (arith, low, small)

  pub running_part : (j w : ℕ) → 1 ≤ j → part j w (with_running m on) ≡ part j w m
  unfolding with_running
  running_part j w b =
      part_apart 0 (bytes_of 1 on) m j w (omega (arith, bytes_of_length 1 on, long)) (inr (omega (arith, bytes_of_length 1 on, b)))

  pub running_row : (i : ℕ) → object_state (with_running m on) i ≡ object_state m i
  running_row i = object_read (with_running m on) m i (λ o w h. running_part (object_row i + o) w (omega arith))

  pub running_length : length (with_running m on) ≡ memory_size
  unfolding with_running
  running_length = omega (arith, replaced_length 0 (bytes_of 1 on) m (omega (arith, bytes_of_length 1 on, long)), long)

pub ready_running : (t : List ℕ) (c : Counts) (m : List ℕ) → Ready t c m → (on : ℕ) → on ≤ 1 → Ready t c (with_running m on)
ready_running t c m ready on few =
    record {
      right = ready.right;
      tables = ready.tables;
      long = running_length m on ready.long;
      bytes = unfold with_running in replaced_bytes 0 (bytes_of 1 on) m (bytes_of_bytes 1 on) ready.bytes;
      running = rw (running_stored m on ready.long (omega (arith, few))) (le-leb on 1 few);
      ipdus = λ k b. rw (ipdu_read (with_running m on) m k (λ o w h. running_part m on ready.long (ipdu_row k + o) w (omega arith))) (ready.ipdus k b);
      objects = λ i b. rw (running_row m on ready.long i) (ready.objects i b);
    }
