-- What is done to a message object keeps working memory in range, and a working memory in range gives what its functions ask.
-- Assumes nothing.
use Rattle.std.proofs.Common.{Bool, true, false, List, inl, inr, ⊎_elim, ◌≡◌, ◌∙◌, ℕ, ◌+◌, ◌-◌, ◌^◌, ◌≤◌, ◌<◌, arith, ltb-true, bit_or, ltb, eqb, length}
use lib.Bits.{or_lt}
use Rattle.memory.specs.Bytes.{bytes_of, part, replaced}
use Rattle.memory.specs.Search.{pick}
use Rattle.memory.proofs.Parts.{bytes_of_length, bytes_of_bytes, part_length, replaced_length}
use Rattle.memory.proofs.Search.{picked}
use Rattle.memory.proofs.Tests.{true_or_false}
use Rattle.bits.specs.Bits.{packed, unpacked}
use Rattle.bits.proofs.RoundTrip.{packed_length, packed_bytes, unpacked_lt}
use Rattle.bits.proofs.Extension.{extended_lt}
use Rattle.filter.specs.Filters.{CountFits}
use Rattle.filter.proofs.Laws.{next_low}
use Rattle.table.specs.declared.Counts.{Counts}
use Rattle.table.specs.declared.ObjectRecord.{ObjectRecord}
use Rattle.config.specs.declared.Object.{Object}
use Rattle.table.specs.Records.{absent, object_record}
use Rattle.table.specs.Rules.{record_filter}
use Rattle.table.specs.Check.{depths, Right}
use Rattle.config.specs.Decode.{object_of}
use Rattle.table.proofs.Accepted.{usable}
use Rattle.state.specs.declared.ObjectState.{ObjectState}
use Rattle.state.specs.Layout.{memory_size, slot_at, object_state}
use Rattle.state.specs.Updates.{counted, with_old, with_value, with_marks, with_queue}
use Rattle.state.specs.Ranges.{Ready}
use Rattle.state.proofs.Ready.{ObjectKept, in_queues, ready_kept, ready_object, ready_bytes}
use Rattle.message.specs.Objects.{object, Placed, marked, passes_filter, after_filter, stored, delivered, enters, deliver, start_bit, pack, unpack}
use Rattle.queue.specs.Queues.{Held, place_at}
use Rattle.queue.proofs.RingPlaces.{queue_room}

-- ---- rows

module _ (r : ObjectRecord) (first : ℕ) where
  pub kept_marks : (b : ℕ) (s : ObjectState) → b ≤ 15 → ObjectKept r first s → ObjectKept r first (with_marks b s)
  kept_marks b s low k =
      record {
        value = k.value;
        old = k.old;
        occurrence = k.occurrence;
        marks = low;
        overflow = k.overflow;
        count = k.count;
        head = k.head;
        queue = k.queue;
      }

  pub kept_marked : (mark : ℕ) (s : ObjectState) → mark ≤ 15 → ObjectKept r first s → ObjectKept r first (marked mark s)
  unfolding marked
  kept_marked mark s low k =
      let below : bit_or s.marks mark < 2 ^ 4 = or_lt 4 s.marks mark (omega (arith, k.marks)) (omega (arith, low)) in
      kept_marks (bit_or s.marks mark) s (omega (arith, below)) k

  pub kept_old : (v : ℕ) (s : ObjectState) → v < 2 ^ 32 → ObjectKept r first s → ObjectKept r first (with_old v s)
  kept_old v s h k =
      record {
        value = k.value;
        old = h;
        occurrence = k.occurrence;
        marks = k.marks;
        overflow = k.overflow;
        count = k.count;
        head = k.head;
        queue = k.queue;
      }

  kept_counted : (s : ObjectState) → ObjectKept r first s → ObjectKept r first (counted (record_filter r) s)
  kept_counted s k =
      record {
        value = k.value;
        old = k.old;
        occurrence = next_low (record_filter r) s.occurrence;
        marks = k.marks;
        overflow = k.overflow;
        count = k.count;
        head = k.head;
        queue = k.queue;
      }

  pub kept_after_filter : (passed : Bool) (v : ℕ) (s : ObjectState) → v < 2 ^ 32 → ObjectKept r first s
      → ObjectKept r first (after_filter passed (object_of r) v s)
  unfolding after_filter object_of
  kept_after_filter passed v s h k =
      kept_counted (pick passed (with_old v s) s) (picked (ObjectKept r first) passed (with_old v s) s (λ e. kept_old v s h k) (λ e. k))

  pub kept_value : (v : ℕ) (s : ObjectState) → v < 2 ^ 32 → ObjectKept r first s → ObjectKept r first (with_value v s)
  kept_value v s h k =
      record {
        value = h;
        old = k.old;
        occurrence = k.occurrence;
        marks = k.marks;
        overflow = k.overflow;
        count = k.count;
        head = k.head;
        queue = k.queue;
      }

  pub kept_queue : (lost oldest n : ℕ) (s : ObjectState) → lost ≤ 1 → n ≤ r.depth → oldest ≤ r.depth - 1 → ObjectKept r first s
      → ObjectKept r first (with_queue lost oldest n s)
  kept_queue lost oldest n s a b d k =
      record {
        value = k.value;
        old = k.old;
        occurrence = k.occurrence;
        marks = k.marks;
        overflow = a;
        count = b;
        head = d;
        queue = k.queue;
      }

  kept_stored : (v : ℕ) (s : ObjectState) → v < 2 ^ 32 → ObjectKept r first s → ObjectKept r first (stored r.depth v s)
  kept_stored v s h k =
      ⊎_elim
      (λ (e : eqb r.depth 0 ≡ true). rw e (kept_marked 1 _ (omega arith) (kept_value v s h k)))
      (λ (e : eqb r.depth 0 ≡ false).
      ⊎_elim
      (λ (f : ltb s.count r.depth ≡ true).
      rw (e, f)
      (kept_marked 1 _ (omega arith)
      (kept_queue s.overflow s.head (s.count + 1) s k.overflow (omega (arith, ltb-true s.count r.depth f)) k.head k)))
      (λ (f : ltb s.count r.depth ≡ false). rw (e, f) (kept_queue 1 s.head s.count s (omega arith) k.count k.head k))
      (true_or_false (ltb s.count r.depth)))
      (true_or_false (eqb r.depth 0))

  pub kept_delivered : (passed : Bool) (v : ℕ) (s : ObjectState) → v < 2 ^ 32 → ObjectKept r first s
      → ObjectKept r first (delivered passed (object_of r) v s)
  unfolding delivered object_of
  kept_delivered true v s h k = kept_stored v (after_filter true (object_of r) v s) h (kept_after_filter true v s h k)
  kept_delivered false v s h k = kept_after_filter false v s h k

-- ---- packing keeps the length

pub right_placed : (t : List ℕ) (c : Counts) (m : List ℕ) → Right t c → memory_size ≤ length m → (i : ℕ) → i < c.objects → Placed (object t c i) m
unfolding object_of
right_placed t c m right long i h =
    record {
      long = long;
      slot = (usable t c right i h).slot;
      ipdu = λ e. omega (arith, ((usable t c right i h).ipdu e).0, right.shape.ipdus);
    }

pub right_start : (t : List ℕ) (c : Counts) (i : ℕ) → Right t c → i < c.objects → (object_record t c.ipdus i).start < 64
right_start t c i right h = (usable t c right i h).start

module _ (o : Object) (v : ℕ) (m : List ℕ) (placed : Placed o m) where
  pub pack_room : eqb o.ipdu.0 absent ≡ false → slot_at o.ipdu.0 + 8 ≤ length m
  pack_room some = omega (arith, placed.ipdu some, placed.long)

  pub packed_slot_length : eqb o.ipdu.0 absent ≡ false
      → length (packed o.order (start_bit o) o.size.0 v (part (slot_at o.ipdu.0) 8 m)) ≡ 8
  packed_slot_length some =
      packed_length o.order (start_bit o) o.size.0 v (part (slot_at o.ipdu.0) 8 m)
      ∙ part_length (slot_at o.ipdu.0) 8 m (pack_room some)

  pub pack_length : length (pack o v m) ≡ length m
  unfolding pack
  pack_length =
      ⊎_elim
      (λ (e : eqb o.ipdu.0 absent ≡ true). rw e)
      (λ (e : eqb o.ipdu.0 absent ≡ false).
      rw e
      (replaced_length (slot_at o.ipdu.0) (packed o.order (start_bit o) o.size.0 v (part (slot_at o.ipdu.0) 8 m)) m
      (omega (arith, packed_slot_length e, pack_room e))))
      (true_or_false (eqb o.ipdu.0 absent))

-- ---- what a working memory in range gives

module _ (t : List ℕ) (c : Counts) (m : List ℕ) (ready : Ready t c m) (i : ℕ) (h : i < c.objects) where
  pub ready_held : Held (object t c i).depth i m
  unfolding object_of
  ready_held =
      let kept = ready_kept t c m ready i h in
      let q = in_queues t c m ready i h in
      record {
        number = omega (arith, h, ready.right.shape.objects);
        long = omega (arith, ready.long);
        few = q.depth;
        count = kept.count;
        head = kept.head;
        queue = omega (arith, kept.queue, q.sum);
      }

  pub ready_count : CountFits (object t c i).filter (object_state m i).occurrence
  unfolding object_of
  ready_count = record { low = (ready_kept t c m ready i h).occurrence; byte = (usable t c ready.right i h).count }

  pub ready_placed : Placed (object t c i) m
  ready_placed = right_placed t c m ready.right (omega (arith, ready.long)) i h

  -- of an object that was decoded
  module _ (o : Object) (same : o ≡ object t c i) where
    pub decoded_held : Held o.depth i m
    decoded_held = rw same ready_held

    pub decoded_count : CountFits o.filter (object_state m i).occurrence
    decoded_count = rw same ready_count

    pub decoded_placed : Placed o m
    decoded_placed = rw same ready_placed

  -- packing keeps the ranges
  pub ready_pack : (v : ℕ) → Ready t c (pack (object t c i) v m)
  unfolding pack
  ready_pack v =
      ⊎_elim
      (λ (e : eqb o.ipdu.0 absent ≡ true). rw e ready)
      (λ (e : eqb o.ipdu.0 absent ≡ false).
      let low = ready_placed.ipdu e in
      let size = packed_slot_length o v m ready_placed e in
      rw e
      (ready_bytes t c m ready (slot_at o.ipdu.0) (packed o.order (start_bit o) o.size.0 v (part (slot_at o.ipdu.0) 8 m))
      (packed_bytes o.order (start_bit o) o.size.0 v (part (slot_at o.ipdu.0) 8 m))
      (omega (arith, size, pack_room o v m ready_placed e)) (inl (omega arith, omega (arith, size, low)))))
      (true_or_false (eqb o.ipdu.0 absent))
    where
      o : Object
      o = object t c i

  -- a value in the queue, or not
  pub ready_queued : (v : ℕ) (b : Bool)
      → Ready t c (pick b (replaced (place_at (object t c i).depth (object_state m i) (object_state m i).count) (bytes_of 4 v) m) m)
  unfolding object_of
  ready_queued v true =
      let room = (queue_room (object t c i).depth i m ready_held).room (object_state m i).count (ready_kept t c m ready i h).count in
      ready_bytes t c m ready (place_at (object t c i).depth (object_state m i) (object_state m i).count) (bytes_of 4 v) (bytes_of_bytes 4 v)
      (omega (arith, room, bytes_of_length 4 v)) (inr (omega arith))
  ready_queued v false = ready

  -- delivery keeps the ranges
  pub ready_deliver : (v : ℕ) → v < 2 ^ 32 → Ready t c (deliver (object t c i) i v m)
  unfolding deliver object_of
  ready_deliver v low =
      ready_object t c
      (pick (enters (passes_filter (object t c i) v (object_state m i)) (object t c i).depth (object_state m i))
      (replaced (place_at (object t c i).depth (object_state m i) (object_state m i).count) (bytes_of 4 v) m) m)
      (ready_queued v (enters (passes_filter (object t c i) v (object_state m i)) (object t c i).depth (object_state m i))) i h
      (delivered (passes_filter (object t c i) v (object_state m i)) (object t c i) v (object_state m i))
      (kept_delivered (object_record t c.ipdus i) (depths t c i) (passes_filter (object t c i) v (object_state m i)) v (object_state m i) low
      (ready_kept t c m ready i h))

-- ---- turns, and all of them

-- the value unpacked fits 32 bits
pub unpack_lt : (t : List ℕ) (c : Counts) (m : List ℕ) → Ready t c m → (i : ℕ) → i < c.objects → unpack (object t c i) m < 2 ^ 32
unfolding unpack
unpack_lt t c m ready i h =
    let o = object t c i in
    let slot = (ready_placed t c m ready i h).slot in
    let f = part (slot_at o.ipdu.0) 8 m in
    extended_lt o.size.0 (unpacked o.order (start_bit o) o.size.0 f) slot.some slot.most (unpacked_lt o.order (start_bit o) o.size.0 f) o.signed
