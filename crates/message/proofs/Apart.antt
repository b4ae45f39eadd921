-- What a delivery changes: the object's own row and its queue, and nothing else; and what it leaves in the row.
-- Assumes nothing.
use Rattle.std.proofs.Common.{Bool, true, false, List, ◌⊎◌, inl, inr, ⊎_elim, ◌≡◌, refl, ◌∙◌, ℕ, ◌+◌, ◌^◌, ◌≤◌, ◌<◌, arith, length}
use Rattle.memory.specs.Bytes.{bytes_of, part, replaced}
use Rattle.memory.specs.Search.{pick}
use Rattle.memory.proofs.Parts.{bytes_of_length, part_apart, replaced_length}
use Rattle.memory.proofs.Tests.{lt_or_le}
use Rattle.table.specs.declared.Counts.{Counts}
use Rattle.table.specs.Records.{most_objects, most_ipdus, object_record}
use Rattle.table.specs.Check.{depths}
use Rattle.config.specs.Decode.{object_of}
use Rattle.state.specs.Layout.{row_size, queues, slot_at, object_row, object_state}
use Rattle.state.specs.Ranges.{Ready}
use Rattle.state.proofs.RowLaws.{object_part, object_stored, object_read}
use Rattle.state.proofs.Ready.{kept_fits, object_row_lem, ready_kept}
use Rattle.message.specs.Objects.{object, passes_filter, delivered, enters, deliver}
use Rattle.queue.specs.Queues.{place_at}
use Rattle.queue.proofs.RingPlaces.{queue_room}
use Rattle.message.proofs.ObjectsInRange.{ready_held, kept_delivered}

-- a part of row j lies before row i or after it, and before the queues
other_row : (i j o w : ℕ) → (j ≡ i → ⊥) → j < most_objects → o + w ≤ 16
    → (object_row j + o + w ≤ object_row i) ⊎ ((object_row i + row_size ≤ object_row j + o) × (object_row j + o + w ≤ queues))
other_row i j o w ne low h =
    ⊎_elim
    (λ (b : j < i). inl (omega (arith, h, b)))
    (λ (b : i ≤ j). inr (omega (arith, ne, b), omega (arith, h, low)))
    (lt_or_le j i)

-- ---- one delivery

module _ (t : List ℕ) (c : Counts) (m : List ℕ) (ready : Ready t c m) (i : ℕ) (h : i < c.objects) (v : ℕ) where
  there : place_at (object t c i).depth (object_state m i) (object_state m i).count + length (bytes_of 4 v) ≤ length m
  unfolding object_of
  there =
      let room = (queue_room (object t c i).depth i m (ready_held t c m ready i h)).room (object_state m i).count (ready_kept t c m ready i h).count in
      omega (arith, room, bytes_of_length 4 v)

  -- the queue's place written, or not
  queue_part : (b : Bool) (j w : ℕ) → j + w ≤ queues
      → part j w (pick b (replaced (place_at (object t c i).depth (object_state m i) (object_state m i).count) (bytes_of 4 v) m) m) ≡ part j w m
  queue_part true j w low =
      part_apart (place_at (object t c i).depth (object_state m i) (object_state m i).count) (bytes_of 4 v) m j w there (inl (omega (arith, low)))
  queue_part false j w low = refl

  queue_length : (b : Bool)
      → length (pick b (replaced (place_at (object t c i).depth (object_state m i) (object_state m i).count) (bytes_of 4 v) m) m) ≡ length m
  queue_length true = replaced_length (place_at (object t c i).depth (object_state m i) (object_state m i).count) (bytes_of 4 v) m there
  queue_length false = refl

  -- apart from the row and the queues
  pub deliver_part : (j w : ℕ) → (j + w ≤ object_row i) ⊎ ((object_row i + row_size ≤ j) × (j + w ≤ queues))
      → part j w (deliver (object t c i) i v m) ≡ part j w m
  unfolding deliver
  deliver_part j w side =
      let room = object_row_lem t c m ready i h in
      let few = ready.right.shape.objects in
      object_part
      (pick (enters (passes_filter (object t c i) v (object_state m i)) (object t c i).depth (object_state m i))
      (replaced (place_at (object t c i).depth (object_state m i) (object_state m i).count) (bytes_of 4 v) m) m)
      i (delivered (passes_filter (object t c i) v (object_state m i)) (object t c i) v (object_state m i))
      (omega (arith, room, queue_length (enters (passes_filter (object t c i) v (object_state m i)) (object t c i).depth (object_state m i)))) j w
      (⊎_elim
      (λ (b : j + w ≤ object_row i). inl b)
      (λ (b : (object_row i + row_size ≤ j) × (j + w ≤ queues)). inr b.0) side)
      ∙ queue_part (enters (passes_filter (object t c i) v (object_state m i)) (object t c i).depth (object_state m i)) j w
      (⊎_elim
      (λ (b : j + w ≤ object_row i). omega (arith, b, h, few))
      (λ (b : (object_row i + row_size ≤ j) × (j + w ≤ queues)). b.1) side)

  pub deliver_other : (j : ℕ) → j < most_objects → (j ≡ i → ⊥) → object_state (deliver (object t c i) i v m) j ≡ object_state m j
  deliver_other j low ne =
      object_read (deliver (object t c i) i v m) m j (λ o w b. deliver_part (object_row j + o) w (other_row i j o w ne low b))

  pub deliver_slot : (k : ℕ) → k < most_ipdus → part (slot_at k) 8 (deliver (object t c i) i v m) ≡ part (slot_at k) 8 m
  deliver_slot k low = deliver_part (slot_at k) 8 (inl (omega (arith, low)))

  -- its own row
  pub deliver_row : v < 2 ^ 32
      → object_state (deliver (object t c i) i v m) i
      ≡ delivered (passes_filter (object t c i) v (object_state m i)) (object t c i) v (object_state m i)
  unfolding deliver object_of
  deliver_row small =
      object_stored
      (pick (enters (passes_filter (object t c i) v (object_state m i)) (object t c i).depth (object_state m i))
      (replaced (place_at (object t c i).depth (object_state m i) (object_state m i).count) (bytes_of 4 v) m) m)
      i (delivered (passes_filter (object t c i) v (object_state m i)) (object t c i) v (object_state m i))
      (omega (arith, object_row_lem t c m ready i h, queue_length (enters (passes_filter (object t c i) v (object_state m i)) (object t c i).depth (object_state m i))))
      (kept_fits t c m ready i h _
      (kept_delivered (object_record t c.ipdus i) (depths t c i) (passes_filter (object t c i) v (object_state m i)) v (object_state m i) small
      (ready_kept t c m ready i h)))
