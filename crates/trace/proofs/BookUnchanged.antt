-- What the book of demand 3 does not see: internal delivery, delivery of a frame, marks, periods, and the rows of I-PDUs. These change
-- no old value or count of a send object, no slot of a send I-PDU, and not whether the layer runs.
-- Assumes nothing.
use Rattle.std.proofs.Common.{Bool, true, false, List, inl, inr, ⊎_elim, ◌≡◌, refl, ap, ◌∙◌, ℕ, zero, suc, ◌+◌, ◌^◌, ◌≤◌, ◌<◌, arith, eqb-true, ne_eqb, eqb, length}
use Rattle.memory.specs.Bytes.{bytes_of, replaced, value, part, number_at}
use Rattle.memory.specs.Search.{pick, fold}
use Rattle.memory.proofs.Parts.{bytes_of_length, part_apart}
use Rattle.memory.proofs.Search.{picked}
use Rattle.memory.proofs.Tests.{eq_or_ne, lt_or_le}
use Rattle.table.specs.declared.Counts.{Counts}
use Rattle.table.specs.Records.{receiving, sending, absent, ipdu_record, object_record, most_ipdus}
use Rattle.table.specs.Check.{depths}
use Rattle.config.specs.Decode.{object_of}
use Rattle.table.proofs.Accepted.{usable}
use Rattle.table.proofs.Senders.{send_no_sender}
use Rattle.state.specs.declared.IpduState.{IpduState}
use Rattle.state.specs.declared.ObjectState.{ObjectState}
use Rattle.state.specs.Layout.{object_state, with_object_state, ipdu_state, with_ipdu_state, row_size, queues, running_at, slot_at, ipdu_row, object_row}
use Rattle.state.specs.Ranges.{Ready}
use Rattle.state.proofs.RowLaws.{ipdu_part, ipdu_keeps_objects, slot_keeps_objects, object_part, object_stored, object_other, object_read}
use Rattle.state.proofs.Ready.{ready_kept, ObjectKept, kept_fits, object_row_lem, ipdu_row_lem}
use Rattle.message.specs.Objects.{object, passes_filter, enters, marked, delivered, deliver, unpack}
use Rattle.queue.specs.Queues.{place_at}
use Rattle.delivery.specs.Delivery.{inside_turn, deliver_inside, frame_turn, deliver_frame, mark_turn, mark_objects}
use Rattle.queue.proofs.RingPlaces.{queue_room}
use Rattle.message.proofs.ObjectsInRange.{kept_marked, ready_held, ready_queued}
use Rattle.delivery.proofs.DeliveriesInRange.{ready_inside, ready_frame, ready_mark}
use Rattle.transmission.specs.Requests.{ipdu}
use Rattle.timing.specs.Periods.{has_period, period_set, period_turn, set_periods}
use Rattle.timing.proofs.PeriodsInRange.{ready_periods}
use Rattle.calls.specs.Answers.{Outcome}
use Rattle.calls.specs.Calls.{is_object, wants, request}
use Rattle.calls.proofs.Records.{object_there, wants_some}
use Rattle.calls.proofs.SendParts.{low_ipdu}

-- ---- what the book speaks of

module _ (t : List ℕ) (c : Counts) where
  -- two memories that the book cannot tell apart
  pub record BookUnchanged (m n : List ℕ) : Type 0 where
    pub running : running_at n ≡ running_at m
    pub old : (i : ℕ) → i < c.objects → (object_record t c.ipdus i).kind ≡ sending → (object_state n i).old ≡ (object_state m i).old
    pub count : (i : ℕ) → i < c.objects → (object_record t c.ipdus i).kind ≡ sending → (object_state n i).occurrence ≡ (object_state m i).occurrence
    pub slot : (k : ℕ) → k < c.ipdus → (ipdu_record t k).direction ≡ sending → part (slot_at k) 8 n ≡ part (slot_at k) 8 m

  pub unchanged_refl : (m : List ℕ) → BookUnchanged m m
  unchanged_refl m = record { running = refl; old = λ i h k. refl; count = λ i h k. refl; slot = λ k h d. refl }

  pub unchanged_then : (l m n : List ℕ) → BookUnchanged l m → BookUnchanged m n → BookUnchanged l n
  unchanged_then l m n a b =
      record {
        running = b.running ∙ a.running;
        old = λ i h k. b.old i h k ∙ a.old i h k;
        count = λ i h k. b.count i h k ∙ a.count i h k;
        slot = λ k h d. b.slot k h d ∙ a.slot k h d;
      }

  -- an object's row, where a send object keeps old and count
  pub unchanged_object : (m : List ℕ) → Ready t c m → (j : ℕ) → j < c.objects → (s : ObjectState)
      → ((object_record t c.ipdus j).kind ≡ sending
      → ObjectKept (object_record t c.ipdus j) (Rattle.table.specs.Check.depths t c j) s
      × (s.old ≡ (object_state m j).old)
      × (s.occurrence ≡ (object_state m j).occurrence))
      → BookUnchanged m (with_object_state m j s)
  unfolding running_at number_at
  unchanged_object m ready j h s keeps =
      record {
        running = ap value (object_part m j s room 0 1 (inl (omega arith)));
        old = λ i b k.
            ⊎_elim
            (λ (e : i ≡ j). rw (e, stored (rw e at k)) (keeps (rw e at k)).1)
            (λ (ne : i ≡ j → ⊥). ap (λ (x : ObjectState). x.old) (object_other m j s room i ne))
            (eq_or_ne i j);
        count = λ i b k.
            ⊎_elim
            (λ (e : i ≡ j). rw (e, stored (rw e at k)) (keeps (rw e at k)).2)
            (λ (ne : i ≡ j → ⊥). ap (λ (x : ObjectState). x.occurrence) (object_other m j s room i ne))
            (eq_or_ne i j);
        slot = λ k b d. object_part m j s room (slot_at k) 8 (inl (omega (arith, b, ready.right.shape.ipdus)));
      }
    where
      room : object_row j + row_size ≤ length m
      room = object_row_lem t c m ready j h

      stored : (object_record t c.ipdus j).kind ≡ sending → object_state (with_object_state m j s) j ≡ s
      stored one = object_stored m j s room (kept_fits t c m ready j h s (keeps one).0)

  -- an I-PDU's row
  pub unchanged_ipdu : (m : List ℕ) → Ready t c m → (k : ℕ) → k < c.ipdus → (s : IpduState) → BookUnchanged m (with_ipdu_state m k s)
  unfolding running_at number_at
  unchanged_ipdu m ready k h s =
      record {
        running = ap value (ipdu_part m k s room 0 1 (inl (omega arith)));
        old = λ i b e. ap (λ (x : ObjectState). x.old) (ipdu_keeps_objects m k s room low i);
        count = λ i b e. ap (λ (x : ObjectState). x.occurrence) (ipdu_keeps_objects m k s room low i);
        slot = λ j b d. ipdu_part m k s room (slot_at j) 8 (inr (omega (arith, low)));
      }
    where
      room : ipdu_row k + row_size ≤ length m
      room = ipdu_row_lem t c m ready k h

      low : k < most_ipdus
      low = omega (arith, h, ready.right.shape.ipdus)

  -- bytes behind the rows, or in the slot of a receive I-PDU
  pub unchanged_queue : (m : List ℕ) → Ready t c m → (at : ℕ) (f : List ℕ) → at + length f ≤ length m → queues ≤ at → BookUnchanged m (replaced at f m)
  unfolding running_at number_at
  unchanged_queue m ready at f room high =
      record {
        running = ap value (part_apart at f m 0 1 room (inl (omega (arith, high))));
        old = λ i b k. ap (λ (x : ObjectState). x.old) (row i b);
        count = λ i b k. ap (λ (x : ObjectState). x.occurrence) (row i b);
        slot = λ k b d. part_apart at f m (slot_at k) 8 room (inl (omega (arith, high, b, ready.right.shape.ipdus)));
      }
    where
      row : (i : ℕ) → i < c.objects → object_state (replaced at f m) i ≡ object_state m i
      row i b =
          object_read (replaced at f m) m i (λ o w e. part_apart at f m (object_row i + o) w room (inl (omega (arith, e, b, high, ready.right.shape.objects))))

  pub unchanged_slot : (m : List ℕ) → Ready t c m → (j : ℕ) → j < c.ipdus → ((ipdu_record t j).direction ≡ sending → ⊥) → (f : List ℕ) → length f ≤ 8
      → BookUnchanged m (replaced (slot_at j) f m)
  unfolding running_at number_at
  unchanged_slot m ready j h received f few =
      record {
        running = ap value (part_apart (slot_at j) f m 0 1 room (inl (omega arith)));
        old = λ i b k. ap (λ (x : ObjectState). x.old) (row i);
        count = λ i b k. ap (λ (x : ObjectState). x.occurrence) (row i);
        slot = λ k b d.
            ⊎_elim
            (λ (e : k ≡ j). absurd (received (rw e at d)))
            (λ (ne : k ≡ j → ⊥).
            part_apart (slot_at j) f m (slot_at k) 8 room
            (⊎_elim (λ (l : k < j). inl (omega (arith, l))) (λ (g : j ≤ k). inr (omega (arith, g, ne, few))) (lt_or_le k j)))
            (eq_or_ne k j);
      }
    where
      room : slot_at j + length f ≤ length m
      room = omega (arith, few, h, ready.long, ready.right.shape.ipdus)

      row : (i : ℕ) → object_state (replaced (slot_at j) f m) i ≡ object_state m i
      row i = slot_keeps_objects m j f few (omega (arith, h, ready.right.shape.ipdus)) room i

-- ---- turns and calls

module _ (t : List ℕ) (c : Counts) where
  -- turns that the book does not see
  unchanged_fold : (n : ℕ) (turn : ℕ → List ℕ → List ℕ) (m : List ℕ) → ((k : ℕ) → k ≤ n → Ready t c (fold k turn m))
      → ((k : ℕ) → k < n → (l : List ℕ) → Ready t c l → BookUnchanged t c l (turn k l)) → BookUnchanged t c m (fold n turn m)
  unchanged_fold zero turn m ready each = unchanged_refl t c m
  unchanged_fold (suc n) turn m ready each =
      unchanged_then t c m (fold n turn m) (turn n (fold n turn m))
      (unchanged_fold n turn m (λ k h. ready k (omega (arith, h))) (λ k h. each k (omega (arith, h))))
      (each n (omega arith) (fold n turn m) (ready n (omega arith)))

  -- a delivery to an object that is not sent
  unchanged_deliver : (i v : ℕ) → i < c.objects → ((object_record t c.ipdus i).kind ≡ sending → ⊥) → (m : List ℕ) → Ready t c m
      → BookUnchanged t c m (deliver (object t c i) i v m)
  unfolding deliver object_of
  unchanged_deliver i v h received m ready =
      unchanged_then t c m (queued e) (with_object_state (queued e) i row) (queue_same e)
      (unchanged_object t c (queued e) (ready_queued t c m ready i h v e) i h row (λ one. absurd (received one)))
    where
      e : Bool
      e = enters (passes_filter (object t c i) v (object_state m i)) (object t c i).depth (object_state m i)

      queued : Bool → List ℕ
      queued b = pick b (replaced (place_at (object t c i).depth (object_state m i) (object_state m i).count) (bytes_of 4 v) m) m

      row : ObjectState
      row = delivered (passes_filter (object t c i) v (object_state m i)) (object t c i) v (object_state m i)

      queue_same : (b : Bool) → BookUnchanged t c m (pick b (replaced (place_at (object t c i).depth (object_state m i) (object_state m i).count) (bytes_of 4 v) m) m)
      queue_same true =
          let room = (queue_room (object t c i).depth i m (ready_held t c m ready i h)).room (object_state m i).count (ready_kept t c m ready i h).count in
          unchanged_queue t c m ready (place_at (object t c i).depth (object_state m i) (object_state m i).count) (bytes_of 4 v) (omega (arith, room, bytes_of_length 4 v)) (omega arith)
      queue_same false = unchanged_refl t c m

  pub unchanged_pick : (b : Bool) (m n : List ℕ) → (b ≡ true → BookUnchanged t c m n) → BookUnchanged t c m (pick b n m)
  unchanged_pick b m n u = picked (BookUnchanged t c m) b n m u (λ e. unchanged_refl t c m)

  -- internal delivery
  pub unchanged_inside : (i v : ℕ) → i < c.objects → v < 2 ^ 32 → (m : List ℕ) → Ready t c m → BookUnchanged t c m (deliver_inside t c i v m)
  unfolding deliver_inside
  unchanged_inside i v h small m ready =
      unchanged_fold c.objects (inside_turn t c i v) m (λ n most. ready_inside t c i v n small most m ready)
      (λ j b l r.
      unchanged_pick (eqb (object_record t c.ipdus j).sender i) l (deliver (object t c j) j v l)
      (λ e.
      unchanged_deliver j v b
      (λ one. omega (arith, send_no_sender t c r.right j b one, eqb-true (object_record t c.ipdus j).sender i e, h, r.right.shape.objects)) l r))

  -- delivery of a frame of a receive I-PDU
  pub unchanged_frame : (k : ℕ) → k < c.ipdus → (ipdu_record t k).direction ≡ receiving → (m : List ℕ) → Ready t c m → BookUnchanged t c m (deliver_frame t c k m)
  unfolding deliver_frame
  unchanged_frame k h two m ready =
      unchanged_fold c.objects (frame_turn t c k) m (λ n most. ready_frame t c k n most m ready)
      (λ j b l r.
      unchanged_pick (eqb (object_record t c.ipdus j).ipdu k) l (deliver (object t c j) j (unpack (object t c j) l) l)
      (λ e. unchanged_deliver j (unpack (object t c j) l) b (received j b l r (eqb-true (object_record t c.ipdus j).ipdu k e)) l r))
    where
      received : (j : ℕ) → j < c.objects → (l : List ℕ) → Ready t c l → (object_record t c.ipdus j).ipdu ≡ k → (object_record t c.ipdus j).kind ≡ sending → ⊥
      received j b l r e one =
          let some : eqb (object_record t c.ipdus j).ipdu absent ≡ false =
          ne_eqb (object_record t c.ipdus j).ipdu absent (λ z. absurd (omega (arith, z, e, h, r.right.shape.ipdus))) in
          let direction : (ipdu_record t (object_record t c.ipdus j).ipdu).direction ≡ (object_record t c.ipdus j).kind = ((usable t c r.right j b).ipdu some).1 in
          let there : (ipdu_record t (object_record t c.ipdus j).ipdu).direction ≡ receiving = ap (λ (n : ℕ). (ipdu_record t n).direction) e ∙ two in
          omega (arith, direction, there, one)

  -- marks
  pub unchanged_mark : (k mark : ℕ) → mark ≤ 15 → (m : List ℕ) → Ready t c m → BookUnchanged t c m (mark_objects t c k mark m)
  unfolding mark_objects marked
  unchanged_mark k mark low m ready =
      unchanged_fold c.objects (mark_turn t c k mark) m (λ n most. ready_mark t c k mark n low most m ready)
      (λ j b l r.
      unchanged_pick (eqb (object_record t c.ipdus j).ipdu k) l (with_object_state l j (marked mark (object_state l j)))
      (λ e.
      unchanged_object t c l r j b (marked mark (object_state l j))
      (λ one. (kept_marked (object_record t c.ipdus j) (depths t c j) mark (object_state l j) low (ready_kept t c l r j b), refl, refl))))

  -- a request that a send wants, made or postponed
  pub unchanged_request : (i : ℕ) → is_object t c sending i ≡ true → (area m : List ℕ) → Ready t c m → BookUnchanged t c m (request t (object t c i) area m).memory
  unfolding request object_of
  unchanged_request i is area m ready =
      picked (λ (o : Outcome). BookUnchanged t c m o.memory) (wants t (object t c i)) _ _
      (λ w. unchanged_ipdu t c m ready (object_record t c.ipdus i).ipdu (low_ipdu t c ready.right i (object_there t c sending i is) (wants_some t (object t c i) w)) _)
      (λ w. unchanged_refl t c m)

  -- periods
  pub unchanged_periods : (on : Bool) (m : List ℕ) → Ready t c m → BookUnchanged t c m (set_periods on t c m)
  unfolding set_periods
  unchanged_periods on m ready =
      unchanged_fold c.ipdus (period_turn on t) m (λ n most. ready_periods t c on n most m ready)
      (λ k b l r.
      unchanged_pick (has_period (ipdu t k).mode) l (with_ipdu_state l k (period_set on (ipdu t k) (ipdu_state l k)))
      (λ e. unchanged_ipdu t c l r k b (period_set on (ipdu t k) (ipdu_state l k))))
