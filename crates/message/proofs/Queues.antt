-- The values that wait in an object's queue: what a receive takes of them, what a delivery adds to them, and what leaves them.
-- Assumes nothing.
use Rattle.std.proofs.Common.{Bool, true, false, List, [], ◌∷◌, ◌++◌, ◌⊎◌, inl, inr, ⊎_elim, ◌≡◌, refl, sym, ap, ap₂, ◌∙◌, ℕ, zero, suc, ◌+◌, ◌-◌, ◌*◌, ◌%◌, ◌^◌, ◌≤◌, ◌<◌, le_refl}
use Rattle.std.proofs.Common.{mod-eq_of_lt, add-one, arith, ltb-true, lt-ltb, le-ltb, eqb-true, ltb, eqb, length, length-append, take, drop, take-take, drop-drop}
use Rattle.table.specs.Records.{most_objects}
use Rattle.memory.specs.Bytes.{value, bytes_of, part, number_at, replaced}
use Rattle.memory.specs.Search.{pick}
use Rattle.memory.proofs.Parts.{bytes_of_length, number_replaced, number_apart, part_apart, replaced_length}
use Rattle.memory.proofs.Rows.{put_holds}
use Rattle.memory.proofs.Search.{picked}
use Rattle.memory.proofs.Tests.{and_split, and_false, lt_or_le, true_or_false}
use Rattle.config.specs.declared.Object.{Object}
use Rattle.state.specs.declared.ObjectState.{ObjectState}
use Rattle.state.specs.Layout.{row_size, queues, object_row, object_fields, object_state, with_object_state}
use Rattle.state.proofs.RowLaws.{object_part}
use Rattle.message.specs.Objects.{marked, passes_filter, after_filter, delivered, enters, deliver}
use Rattle.queue.specs.Queues.{Held, around, place_at, oldest, dequeued, dequeue, value_behind, oldest_values, waiting}
use Rattle.queue.proofs.RingPlaces.{around_lt, queue_room}

-- ---- places of the ring

-- the place n behind the next one is the place n + 1 behind this one
around_next : (depth p n : ℕ) → p < depth → n < depth → around depth (around depth (p + 1) + n) ≡ around depth (p + suc n)
around_next depth p n low few =
    ⊎_elim
    (λ (h : p + 1 < depth).
    let same : p + 1 + n ≡ p + suc n = omega arith in
    rw (lt-ltb (p + 1) depth h, same))
    (λ (h : depth ≤ p + 1).
    let first : p + 1 - depth + n ≡ n = omega arith in
    rw (le-ltb (p + 1) depth h, first, lt-ltb n depth few, le-ltb (p + suc n) depth (omega arith)) (omega arith))
    (lt_or_le (p + 1) depth)

-- two values stand at two places
around_apart : (depth p k n : ℕ) → p < depth → k < n → n < depth
    → (around depth (p + k) < around depth (p + n)) ⊎ (around depth (p + n) < around depth (p + k))
around_apart depth p k n low less few =
    ⊎_elim
    (λ (h : p + n < depth). rw (lt-ltb (p + n) depth h, lt-ltb (p + k) depth (omega arith)) (inl (omega arith)))
    (λ (h : depth ≤ p + n).
    ⊎_elim
    (λ (g : p + k < depth). rw (le-ltb (p + n) depth h, lt-ltb (p + k) depth g) (inr (omega arith)))
    (λ (g : depth ≤ p + k). rw (le-ltb (p + n) depth h, le-ltb (p + k) depth g) (inl (omega arith)))
    (lt_or_le (p + k) depth))
    (lt_or_le (p + n) depth)

-- ---- the n oldest values

module _ (depth : ℕ) (r s : ObjectState) (l m : List ℕ) where
  -- values that are equal one by one
  values_same : (n : ℕ) → ((k : ℕ) → k < n → value_behind depth r l k ≡ value_behind depth s m k) → oldest_values depth r l n ≡ oldest_values depth s m n
  values_same zero same = refl
  values_same (suc n) same =
      ap₂ (λ (vs : List ℕ) (v : ℕ). vs ++ (v ∷ [])) (values_same n (λ k b. same k (omega (arith, b)))) (same n (le_refl (suc n)))

  -- the oldest value, and those behind it
  values_first : (n : ℕ) → ((k : ℕ) → k < n → value_behind depth s m (suc k) ≡ value_behind depth r l k)
      → oldest_values depth s m (suc n) ≡ value_behind depth s m 0 ∷ oldest_values depth r l n
  values_first zero same = refl
  values_first (suc n) same =
      ap₂ (λ (vs : List ℕ) (v : ℕ). vs ++ (v ∷ [])) (values_first n (λ k b. same k (omega (arith, b)))) (same n (le_refl (suc n)))

-- there are n of them
values_length : (depth : ℕ) (s : ObjectState) (m : List ℕ) (n : ℕ) → length (oldest_values depth s m n) ≡ n
values_length depth s m zero = refl
values_length depth s m (suc n) = simp (length-append, values_length depth s m n) (omega arith)

-- as many values wait as the row counts
pub waiting_length : (depth i : ℕ) (m : List ℕ) → length (waiting depth i m) ≡ (object_state m i).count
unfolding waiting
waiting_length depth i m = values_length depth (object_state m i) m (object_state m i).count

-- no value waits where the row counts none
pub waiting_none : (depth i : ℕ) (m : List ℕ) → (object_state m i).count ≡ 0 → waiting depth i m ≡ []
unfolding waiting
waiting_none depth i m e = ap (oldest_values depth (object_state m i) m) e

-- ---- a row that is stored

-- its numbers of the queue fit their bytes
record RingFits (s : ObjectState) : Type 0 where
  head : s.head < 256
  count : s.count < 256
  queue : s.queue < 2 ^ 16

-- what waits then: the values that the row tells of, as they stood before
waiting_stored : (depth i : ℕ) (m : List ℕ) (s : ObjectState) → i < most_objects → object_row i + row_size ≤ length m → RingFits s
    → waiting depth i (with_object_state m i s) ≡ oldest_values depth s m s.count
unfolding waiting number_at with_object_state object_state
waiting_stored depth i m s low room fits =
    let h = put_holds (object_row i) 0 16 (object_fields s) m refl room in
    let head : (object_state (with_object_state m i s) i).head ≡ s.head = h.1.1.1.1.1.0 ∙ mod-eq_of_lt fits.head in
    let count : (object_state (with_object_state m i s) i).count ≡ s.count = h.1.1.1.1.1.1.0 ∙ mod-eq_of_lt fits.count in
    let queue : (object_state (with_object_state m i s) i).queue ≡ s.queue = h.1.1.1.1.1.1.1.0 ∙ mod-eq_of_lt fits.queue in
    ap (oldest_values depth (object_state (with_object_state m i s) i) (with_object_state m i s)) count
    ∙ values_same depth (object_state (with_object_state m i s) i) s (with_object_state m i s) m s.count
    (λ k b. rw (head, queue) (ap value (object_part m i s room (place_at depth s k) 4 (inr (omega arith)))))

-- ---- receive

-- the row lies in working memory
held_row : (depth i : ℕ) (m : List ℕ) → Held depth i m → object_row i + row_size ≤ length m
held_row depth i m held = omega (arith, held.number, held.long)

-- the oldest value is the first, and a receive leaves the others
pub waiting_oldest : (depth i : ℕ) (m : List ℕ) → Held depth i m → 0 < (object_state m i).count
    → waiting depth i m ≡ oldest depth i m ∷ waiting depth i (dequeue depth i m)
unfolding waiting oldest dequeue
waiting_oldest depth i m held some =
    let s = object_state m i in
    let one : s.count ≡ suc (s.count - 1) = omega arith in
    let low : s.head < depth = omega (arith, held.head, held.count) in
    let next = around_lt depth (s.head + 1) (omega arith) in
    let fits : RingFits (dequeued depth s) =
    record { head = omega (arith, next, held.few); count = omega (arith, held.count, held.few); queue = omega (arith, held.queue) } in
    ap (oldest_values depth s m) one
    ∙ values_first depth (dequeued depth s) s m m (s.count - 1)
    (λ k b.
    ap (λ (p : ℕ). number_at 4 (queues + 4 * (s.queue + p)) m) (sym (around_next depth s.head k low (omega (arith, b, held.count)))))
    ∙ ap (λ (vs : List ℕ). oldest depth i m ∷ vs) (sym (waiting_stored depth i m (dequeued depth s) held.number (held_row depth i m held) fits))

-- ---- delivery

-- of the row's numbers of the queue it changes the count alone, by 1, where the value enters the queue
record RingDelivered (passed : Bool) (o : Object) (v : ℕ) (s : ObjectState) : Type 0 where
  head : (delivered passed o v s).head ≡ s.head
  count : (delivered passed o v s).count ≡ pick (enters passed o.depth s) (s.count + 1) s.count
  queue : (delivered passed o v s).queue ≡ s.queue

-- that is so of every delivery: passed or not, with a queue or none, with room or full
ring_delivered : (passed : Bool) (o : Object) (v : ℕ) (s : ObjectState) → RingDelivered passed o v s
unfolding delivered after_filter marked
ring_delivered false o v s = record { head = refl; count = refl; queue = refl }
ring_delivered true o v s =
    ⊎_elim
    (λ (e : eqb o.depth 0 ≡ true).
    let none : o.depth ≤ s.count = omega (arith, eqb-true o.depth 0 e) in
    record { head = rw e; count = rw (e, le-ltb s.count o.depth none); queue = rw e })
    (λ (e : eqb o.depth 0 ≡ false).
    ⊎_elim
    (λ (f : ltb s.count o.depth ≡ true). record { head = rw (e, f); count = rw (e, f); queue = rw (e, f) })
    (λ (f : ltb s.count o.depth ≡ false). record { head = rw (e, f); count = rw (e, f); queue = rw (e, f) })
    (true_or_false (ltb s.count o.depth)))
    (true_or_false (eqb o.depth 0))

-- working memory with v at the place behind all values, where it enters the queue
abbrev enqueued : Bool → ℕ → ℕ → ℕ → List ℕ → List ℕ
enqueued enter depth i v m = pick enter (replaced (place_at depth (object_state m i) (object_state m i).count) (bytes_of 4 v) m) m

module _ (o : Object) (i v : ℕ) (m : List ℕ) (held : Held o.depth i m) where
  -- that place lies in working memory
  place_room : place_at o.depth (object_state m i) (object_state m i).count + length (bytes_of 4 v) ≤ length m
  place_room = omega (arith, (queue_room o.depth i m held).room (object_state m i).count held.count, bytes_of_length 4 v)

  -- and so does the row still
  row_room : (enter : Bool) → object_row i + row_size ≤ length (enqueued enter o.depth i v m)
  row_room true =
      omega (arith, held_row o.depth i m held, replaced_length (place_at o.depth (object_state m i) (object_state m i).count) (bytes_of 4 v) m place_room)
  row_room false = held_row o.depth i m held

  -- a value that enters the queue has room there
  enters_room : (passed : Bool) → enters passed o.depth (object_state m i) ≡ true → (object_state m i).count < o.depth
  enters_room passed e = ltb-true (object_state m i).count o.depth (and_split passed (ltb (object_state m i).count o.depth) e).1

  -- the values with v behind them, where it enters the queue, told by a row that has the queue and its head
  values_enqueued : (r : ObjectState) → r.head ≡ (object_state m i).head → r.queue ≡ (object_state m i).queue
      → (enter : Bool) → (enter ≡ true → (object_state m i).count < o.depth)
      → oldest_values o.depth r (enqueued enter o.depth i v m) (pick enter ((object_state m i).count + 1) (object_state m i).count)
      ≡ pick enter (waiting o.depth i m ++ (v % 2 ^ 32 ∷ [])) (waiting o.depth i m)
  unfolding waiting
  values_enqueued r head queue true room =
      let s = object_state m i in
      let d = o.depth in
      let at = place_at d s s.count in
      let n = enqueued true d i v m in
      let low : s.count < d = room refl in
      ap (oldest_values d r n) (add-one s.count)
      ∙ ap₂ (λ (vs : List ℕ) (x : ℕ). vs ++ (x ∷ []))
      (values_same d r s n m s.count
      (λ k b.
      rw (head, queue)
      (number_apart at (bytes_of 4 v) m (place_at d s k) 4 place_room
      (⊎_elim
      (λ (a : around d (s.head + k) < around d (s.head + s.count)). inl (omega (arith, a)))
      (λ (a : around d (s.head + s.count) < around d (s.head + k)). inr (omega (arith, a, bytes_of_length 4 v)))
      (around_apart d s.head k s.count (omega (arith, held.head, low)) b low)))))
      (rw (head, queue) (number_replaced 4 at v m ((queue_room d i m held).room s.count held.count)))
  values_enqueued r head queue false room =
      values_same o.depth r (object_state m i) m m (object_state m i).count (λ k b. rw (head, queue))

  -- where the value enters the queue, it waits behind all others
  pub waiting_delivered : waiting o.depth i (deliver o i v m)
      ≡ pick (enters (passes_filter o v (object_state m i)) o.depth (object_state m i)) (waiting o.depth i m ++ (v % 2 ^ 32 ∷ [])) (waiting o.depth i m)
  unfolding deliver
  waiting_delivered =
      let s = object_state m i in
      let d = o.depth in
      let enter = enters (passes_filter o v s) d s in
      let r = delivered (passes_filter o v s) o v s in
      let ring = ring_delivered (passes_filter o v s) o v s in
      let most = picked (λ (n : ℕ). n < 256) enter (s.count + 1) s.count (λ y. omega (arith, held.count, held.few)) (λ y. omega (arith, held.count, held.few)) in
      let fits : RingFits r =
      record {
        head = omega (arith, ring.head, held.head, held.few);
        count = omega (arith, ring.count, most);
        queue = omega (arith, ring.queue, held.queue);
      } in
      waiting_stored d i (enqueued enter d i v m) r held.number (row_room enter) fits
      ∙ ap (oldest_values d r (enqueued enter d i v m)) ring.count
      ∙ values_enqueued r ring.head ring.queue enter (enters_room (passes_filter o v s))

  -- a value that passes, and finds room, waits behind all others
  pub waiting_arrived : v < 2 ^ 32 → passes_filter o v (object_state m i) ≡ true → (object_state m i).count < o.depth
      → waiting o.depth i (deliver o i v m) ≡ waiting o.depth i m ++ (v ∷ [])
  waiting_arrived small passed room = waiting_delivered ∙ rw (passed, lt-ltb (object_state m i).count o.depth room, mod-eq_of_lt small)

  -- a full queue loses the value, passed or not
  pub waiting_lost : (object_state m i).count ≡ o.depth → waiting o.depth i (deliver o i v m) ≡ waiting o.depth i m
  waiting_lost full =
      waiting_delivered ∙ rw (le-ltb (object_state m i).count o.depth (omega (arith, full)), and_false (passes_filter o v (object_state m i)))

  -- a value that does not pass is dropped
  pub waiting_dropped : passes_filter o v (object_state m i) ≡ false → waiting o.depth i (deliver o i v m) ≡ waiting o.depth i m
  waiting_dropped dropped = waiting_delivered ∙ rw dropped

  -- a part of the queues that does not hold the place behind all values is as it was
  pub deliver_apart : (at w : ℕ) → queues ≤ at
      → ((object_state m i).count < o.depth
      → (at + w ≤ place_at o.depth (object_state m i) (object_state m i).count) ⊎ (place_at o.depth (object_state m i) (object_state m i).count + 4 ≤ at))
      → part at w (deliver o i v m) ≡ part at w m
  unfolding deliver
  deliver_apart at w behind side =
      let s = object_state m i in
      let enter = enters (passes_filter o v s) o.depth s in
      let p = place_at o.depth s s.count in
      object_part (enqueued enter o.depth i v m) i (delivered (passes_filter o v s) o v s) (row_room enter) at w (inr (omega (arith, behind, held.number)))
      ∙ picked (λ (n : List ℕ). part at w n ≡ part at w m) enter (replaced p (bytes_of 4 v) m) m
      (λ y.
      part_apart p (bytes_of 4 v) m at w place_room
      (⊎_elim
      (λ (a : at + w ≤ p). inl a)
      (λ (a : p + 4 ≤ at). inr (omega (arith, a, bytes_of_length 4 v)))
      (side (enters_room (passes_filter o v s) y))))
      (λ y. refl)

-- ---- what leaves the queue alone

-- a part within a part
part_within : (o w k : ℕ) (f : List ℕ) → o + w ≤ k → take w (drop o (take k f)) ≡ take w (drop o f)
part_within zero w k f h = take-take w k f (omega arith)
part_within (suc o) w zero f h = absurd (omega arith)
part_within (suc o) w (suc k) [] h = refl
part_within (suc o) w (suc k) (b ∷ f) h = part_within o w k f (omega arith)

-- equal parts have equal parts within them
equal_within : (at k o w : ℕ) (m n : List ℕ) → o + w ≤ k → part at k n ≡ part at k m → part (at + o) w n ≡ part (at + o) w m
unfolding part
equal_within at k o w m n h same =
    rw (← drop-drop o at n, ← drop-drop o at m)
    (sym (part_within o w k (drop at n) h) ∙ ap (λ (f : List ℕ). take w (drop o f)) same ∙ part_within o w k (drop at m) h)

-- the values that wait are read from the object's row and the places of its queue alone
pub waiting_same : (depth i : ℕ) (m n : List ℕ) → Held depth i m → object_state n i ≡ object_state m i
    → part (queues + 4 * (object_state m i).queue) (4 * depth) n ≡ part (queues + 4 * (object_state m i).queue) (4 * depth) m
    → waiting depth i n ≡ waiting depth i m
unfolding waiting number_at
waiting_same depth i m n held row same =
    rw row
    (values_same depth (object_state m i) (object_state m i) n m (object_state m i).count
    (λ k b.
    let s = object_state m i in
    let low = around_lt depth (s.head + k) (omega (arith, b, held.head, held.count)) in
    let place : place_at depth s k ≡ queues + 4 * s.queue + 4 * around depth (s.head + k) = omega arith in
    rw place (ap value (equal_within (queues + 4 * s.queue) (4 * depth) (4 * around depth (s.head + k)) 4 m n (omega (arith, low)) same))))
