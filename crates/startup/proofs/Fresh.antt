-- What a start writes, step by step, whatever was there. The laws ask for plain values, so that a search finds them.
-- Assumes nothing.
use Rattle.std.proofs.Common.{List, ◌≡◌, ℕ, ◌+◌, ◌^◌, ◌≤◌, ◌<◌, arith, length, replicate}
use native.Mathlib.Numerals.{unary_clauses}
use Rattle.memory.specs.Bytes.{bytes_of, replaced}
use Rattle.memory.specs.Search.{fold}
use Rattle.memory.proofs.Search.{turn_more}
use Rattle.table.specs.declared.Counts.{Counts}
use Rattle.config.specs.declared.Object.{Object}
use Rattle.table.specs.Check.{Right, depths}
use Rattle.config.specs.Decode.{object_of}
use Rattle.state.specs.Layout.{memory_size, with_running}
use Rattle.state.proofs.Turns.{depth_sum}
use Rattle.message.specs.Objects.{object, Placed}
use Rattle.message.proofs.ObjectsInRange.{right_placed}
use Rattle.startup.specs.Start.{blank, start_ipdu, start_as, start_object, prepared, started}

-- all bytes cleared, the I-PDUs' rows written, then the objects, then that the layer runs
pub all_written : (t : List ℕ) (c : Counts) {size : ℕ} {zeros ipdus objects running : List ℕ} → size ≡ memory_size → zeros ≡ replicate size 0
    → ipdus ≡ fold c.ipdus (start_ipdu t) zeros → objects ≡ fold c.objects (start_object t c) ipdus → running ≡ replaced 0 (bytes_of 1 1) objects
    → running ≡ started t c
unfolding started prepared blank with_running
all_written t c size zeros ipdus objects running = rw (running, objects, ipdus, zeros, size)

-- ---- one row more

module _ (t : List ℕ) (c : Counts) (i first : ℕ) (o : Object) (same : o ≡ object t c i) where
  pub starts_placed : (m₀ m : List ℕ) → Right t c → i < c.objects → memory_size ≤ length m₀ → length m ≡ length m₀ → Placed o m
  starts_placed m₀ m right h long kept = rw same (right_placed t c m right (omega (arith, long, kept)) i h)

  module _ (so_far : first ≡ depths t c i) where
    pub first_fits : Right t c → i < c.objects → first + o.depth < 2 ^ 32
    unfolding object_of
    first_fits right h = rw (so_far, same) (omega (arith, depth_sum t c right i h))

    pub first_more : first + o.depth ≡ depths t c (i + 1)
    unfolding object_of
    first_more = simp unary_clauses (rw (so_far, same))

    pub objects_more : (m₀ m n : List ℕ) → m ≡ fold i (start_object t c) m₀ → n ≡ start_as o.direction o i first m → n ≡ fold (i + 1) (start_object t c) m₀
    objects_more m₀ m n before starts = turn_more (start_object t c) i m m₀ before n (rw (starts, so_far, same))
