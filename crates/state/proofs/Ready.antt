-- A working memory in range stays so: where a row is set to numbers in their ranges, and where bytes outside the rows change.
-- Assumes nothing.
use Rattle.std.proofs.Common.{true, not, List, [], ◌∷◌, ◌⊎◌, inl, inr, ⊎_elim, ◌≡◌, ap, ℕ, ◌+◌, ◌-◌, ◌^◌, ◌≤◌, ◌<◌, arith, leb-true, le-leb, eqb-true, eq-eqb, leb, eqb, length}
use borrow.Author.Tests.{not-false, not-true}
use Rattle.memory.specs.Bytes.{Bytes, part, number_at, replaced}
use Rattle.memory.proofs.Parts.{part_apart, replaced_length, replaced_bytes}
use Rattle.memory.specs.Search.{any_below}
use Rattle.memory.proofs.Search.{any_none, any_false}
use Rattle.memory.proofs.Tests.{each_true, eq_or_ne}
use Rattle.filter.specs.Filters.{greatest_count}
use Rattle.table.specs.declared.Counts.{Counts}
use Rattle.table.specs.declared.ObjectRecord.{ObjectRecord}
use Rattle.table.specs.Records.{most_queued, ipdu_record, object_record}
use Rattle.table.specs.Rules.{record_filter}
use Rattle.table.specs.Check.{depths, Right}
use Rattle.config.specs.Decode.{ipdu_of}
use Rattle.table.proofs.Accepted.{usable}
use Rattle.state.specs.declared.IpduState.{IpduState}
use Rattle.state.specs.declared.ObjectState.{ObjectState}
use Rattle.state.specs.Layout.{row_size, queues, object_rows, slots, memory_size, running_at, ipdu_row, ipdu_state, with_ipdu_state, object_row, object_state, with_object_state}
use Rattle.state.specs.Ranges.{ipdu_in_range, object_in_range, ipdu_out, object_out, in_range, Ready}
use Rattle.state.proofs.RowLaws.{IpduFits, ipdu_length_lem, ipdu_part, ipdu_stored, ipdu_bytes_lem, ipdu_read, ipdu_other, ipdu_keeps_objects, ObjectFits, object_length}
use Rattle.state.proofs.RowLaws.{object_part, object_stored, object_bytes_lem, object_fits, object_read, object_other, object_keeps_ipdus}
use Rattle.state.proofs.Turns.{depth_sum}

-- ---- an object's numbers in their ranges

pub record ObjectKept (r : ObjectRecord) (first : ℕ) (s : ObjectState) : Type 0 where
  pub value : s.value < 2 ^ 32
  pub old : s.old < 2 ^ 32
  pub occurrence : s.occurrence ≤ greatest_count (record_filter r)
  pub marks : s.marks ≤ 15
  pub overflow : s.overflow ≤ 1
  pub count : s.count ≤ r.depth
  pub head : s.head ≤ r.depth - 1
  pub queue : s.queue ≡ first

pub object_kept : (r : ObjectRecord) (first : ℕ) (s : ObjectState) → ObjectFits s → object_in_range r first s ≡ true → ObjectKept r first s
unfolding object_in_range
object_kept r first s f e =
    let all =
    each_true (leb s.marks 15)
    (leb s.overflow 1 ∷ leb s.count r.depth ∷ leb s.head (r.depth - 1) ∷ eqb s.queue first
    ∷ leb s.occurrence (greatest_count (record_filter r)) ∷ []) e in
    search (leb-true, eqb-true)

pub kept_object : (r : ObjectRecord) (first : ℕ) (s : ObjectState) → ObjectKept r first s → object_in_range r first s ≡ true
unfolding object_in_range
kept_object r first s k =
    rw (
      le-leb s.marks 15 k.marks,
      le-leb s.overflow 1 k.overflow,
      le-leb s.count r.depth k.count,
      le-leb s.head (r.depth - 1) k.head,
      eq-eqb s.queue first k.queue,
    )
    (le-leb s.occurrence (greatest_count (record_filter r)) k.occurrence)

module _ (t : List ℕ) (c : Counts) (m : List ℕ) (ready : Ready t c m) where
  -- what a byte holds is enough for an object's count
  pub count_byte : (i : ℕ) → i < c.objects → greatest_count (record_filter (object_record t c.ipdus i)) < 256
  count_byte i h = (usable t c ready.right i h).count

  -- where an object's queue ends, and its depth
  pub record InQueues (i : ℕ) : Type 0 where
    pub depth : (object_record t c.ipdus i).depth ≤ 16
    pub sum : depths t c i + (object_record t c.ipdus i).depth ≤ most_queued

  pub in_queues : (i : ℕ) → i < c.objects → InQueues i
  in_queues i h = record { depth = (usable t c ready.right i h).depth; sum = depth_sum t c ready.right i h }

  pub object_row_lem : (i : ℕ) → i < c.objects → object_row i + row_size ≤ length m
  object_row_lem i h = omega (arith, h, ready.long, ready.right.shape.objects)

  pub ipdu_row_lem : (k : ℕ) → k < c.ipdus → ipdu_row k + row_size ≤ length m
  ipdu_row_lem k h = omega (arith, h, ready.long, ready.right.shape.ipdus)

  pub ready_kept : (i : ℕ) → i < c.objects → ObjectKept (object_record t c.ipdus i) (depths t c i) (object_state m i)
  ready_kept i h =
      object_kept (object_record t c.ipdus i) (depths t c i) (object_state m i) (object_fits m i ready.bytes) (ready.objects i h)

  pub kept_fits : (i : ℕ) → i < c.objects → (s : ObjectState) → ObjectKept (object_record t c.ipdus i) (depths t c i) s → ObjectFits s
  kept_fits i h s kept =
      let q = in_queues i h in
      record {
        value = kept.value;
        old = kept.old;
        occurrence = omega (arith, kept.occurrence, count_byte i h);
        marks = omega (arith, kept.marks);
        overflow = omega (arith, kept.overflow);
        head = omega (arith, kept.head, q.depth);
        count = omega (arith, kept.count, q.depth);
        queue = omega (arith, kept.queue, q.sum);
      }

  -- an object's row set to numbers in range
  pub ready_object : (i : ℕ) → i < c.objects → (s : ObjectState) → ObjectKept (object_record t c.ipdus i) (depths t c i) s
      → Ready t c (with_object_state m i s)
  unfolding running_at number_at
  ready_object i h s kept =
      record {
        right = ready.right;
        tables = ready.tables;
        long = omega (arith, object_length m i s room, ready.long);
        bytes = object_bytes_lem m i s ready.bytes;
        running = rw (object_part m i s room 0 1 (inl (omega arith))) ready.running;
        ipdus = λ k b. rw (object_keeps_ipdus m i s room k (omega (arith, b, ready.right.shape.ipdus))) (ready.ipdus k b);
        objects = objects;
      }
    where
      room : object_row i + row_size ≤ length m
      room = object_row_lem i h

      fits : ObjectFits s
      fits = kept_fits i h s kept

      objects : (j : ℕ) → j < c.objects
          → object_in_range (object_record t c.ipdus j) (depths t c j) (object_state (with_object_state m i s) j) ≡ true
      objects j b =
          ⊎_elim
          (λ (e : j ≡ i). rw (e, object_stored m i s room fits) (kept_object (object_record t c.ipdus i) (depths t c i) s kept))
          (λ (ne : j ≡ i → ⊥). rw (object_other m i s room j ne) (ready.objects j b))
          (eq_or_ne j i)

  -- an I-PDU's row set to numbers in range
  pub ready_ipdu : (k : ℕ) → k < c.ipdus → (s : IpduState) → IpduFits s → ipdu_in_range (ipdu_of (ipdu_record t k)) s ≡ true
      → Ready t c (with_ipdu_state m k s)
  unfolding running_at number_at
  ready_ipdu k h s fits kept =
      record {
        right = ready.right;
        tables = ready.tables;
        long = omega (arith, ipdu_length_lem m k s room, ready.long);
        bytes = ipdu_bytes_lem m k s ready.bytes;
        running = rw (ipdu_part m k s room 0 1 (inl (omega arith))) ready.running;
        ipdus = ipdus;
        objects = λ i b. rw (ipdu_keeps_objects m k s room (omega (arith, h, ready.right.shape.ipdus)) i) (ready.objects i b);
      }
    where
      room : ipdu_row k + row_size ≤ length m
      room = ipdu_row_lem k h

      ipdus : (j : ℕ) → j < c.ipdus → ipdu_in_range (ipdu_of (ipdu_record t j)) (ipdu_state (with_ipdu_state m k s) j) ≡ true
      ipdus j b =
          ⊎_elim
          (λ (e : j ≡ k). rw (e, ipdu_stored m k s room fits) kept)
          (λ (ne : j ≡ k → ⊥). rw (ipdu_other m k s room j ne) (ready.ipdus j b))
          (eq_or_ne j k)

  -- other bytes: the slots, or the queues and all behind them
  pub ready_bytes : (at : ℕ) (f : List ℕ) → Bytes f → at + length f ≤ length m → ((slots ≤ at) × (at + length f ≤ object_rows)) ⊎ (queues ≤ at)
      → Ready t c (replaced at f m)
  unfolding running_at number_at
  ready_bytes at f bs room side =
      record {
        right = ready.right;
        tables = ready.tables;
        long = omega (arith, replaced_length at f m room, ready.long);
        bytes = replaced_bytes at f m bs ready.bytes;
        running = rw (same 0 1 (inl (omega arith))) ready.running;
        ipdus = λ k b.
            rw (ipdu_read (replaced at f m) m k (λ o w h. same (ipdu_row k + o) w (inl (omega (arith, b, ready.right.shape.ipdus)))))
            (ready.ipdus k b);
        objects = λ i b.
            rw (object_read (replaced at f m) m i (λ o w h. same (object_row i + o) w (inr (omega arith, omega (arith, b, ready.right.shape.objects)))))
            (ready.objects i b);
      }
    where
      same : (j w : ℕ) → (j + w ≤ slots) ⊎ ((object_rows ≤ j) × (j + w ≤ queues)) → part j w (replaced at f m) ≡ part j w m
      same j w row =
          part_apart at f m j w room
          (⊎_elim
          (λ (low : (slots ≤ at) × (at + length f ≤ object_rows)).
          ⊎_elim (λ (a : j + w ≤ slots). inl (omega (arith, low.0))) (λ (b : (object_rows ≤ j) × (j + w ≤ queues)). inr (omega (arith, low.1, b.0))) row)
          (λ (high : queues ≤ at).
          ⊎_elim (λ (a : j + w ≤ slots). inl (omega arith)) (λ (b : (object_rows ≤ j) × (j + w ≤ queues)). inl (omega (arith, b.1))) row)
          side)

-- ---- what was found in range, and back

pub in_range_ready : (t : List ℕ) (c : Counts) (m : List ℕ) → Right t c → Bytes t → length m ≡ memory_size → Bytes m
    → in_range t c m ≡ true → Ready t c m
unfolding in_range
in_range_ready t c m right bt long bm e =
    let all =
    each_true (leb (running_at m) 1) (not (any_below c.ipdus (ipdu_out t m)) ∷ not (any_below c.objects (object_out t c m)) ∷ []) e in
    record {
      right = right;
      tables = bt;
      long = long;
      bytes = bm;
      running = all.0;
      ipdus = λ k h. not-false _ (any_false c.ipdus (ipdu_out t m) (not-true _ all.1.0) k h);
      objects = λ i h. not-false _ (any_false c.objects (object_out t c m) (not-true _ all.1.1) i h);
    }

pub ready_in_range : (t : List ℕ) (c : Counts) (m : List ℕ) → Ready t c m → in_range t c m ≡ true
unfolding in_range
ready_in_range t c m r =
    rw (
      r.running,
      any_none c.ipdus (ipdu_out t m) (λ k h. ap not (r.ipdus k h)),
      any_none c.objects (object_out t c m) (λ i h. ap not (r.objects i h)),
    )
