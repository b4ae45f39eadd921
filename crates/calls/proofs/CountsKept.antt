-- A call that does not filter a value of an object leaves its occurrence.
-- Assumes nothing.
use Rattle.std.proofs.Common.{Bool, true, false, not, ◌&&◌, List, ⊎_elim, ◌≡◌, refl, sym, ap, ◌∙◌, ℕ, ◌^◌, ◌≤◌, ◌<◌, arith, eqb-true, ltb-true, ltb, eqb, length}
use borrow.Author.Tests.{eqb-false}
use Rattle.memory.specs.Bytes.{Bytes, replaced}
use Rattle.memory.specs.Search.{pick, fold}
use Rattle.memory.proofs.Search.{picked, fold_view}
use Rattle.memory.proofs.Tests.{eq_or_ne, true_or_false}
use Rattle.table.specs.declared.Counts.{Counts}
use Rattle.config.specs.declared.Direction.{Direction}
use Rattle.config.specs.declared.Direction.TheVariants.{Send, Receive}
use Rattle.table.specs.Records.{most_ipdus, receiving, sending, ipdu_record, object_record}
use Rattle.state.specs.declared.IpduState.{IpduState}
use Rattle.state.specs.declared.ObjectState.{ObjectState}
use Rattle.state.specs.Layout.{slot_at, ipdu_state, with_ipdu_state, object_state, with_object_state}
use Rattle.state.specs.Updates.{with_old, with_value, with_marks, with_queue}
use Rattle.state.specs.Ranges.{Ready}
use Rattle.state.proofs.RowLaws.{object_length, object_occurrence, object_fits, object_other, ipdu_keeps_objects, slot_keeps_objects}
use Rattle.state.proofs.Ready.{object_row_lem, ipdu_row_lem}
use Rattle.state.proofs.Running.{running_row}
use Rattle.message.specs.Objects.{object, marked, mark_sent, mark_receive_error, mark_send_error, after_filter, pack, initialise_as, initialise}
use Rattle.queue.specs.Queues.{dequeued, dequeue}
use Rattle.delivery.specs.Delivery.{deliver_frame, mark_turn, mark_objects}
use Rattle.message.proofs.ObjectsInRange.{ready_placed}
use Rattle.message.proofs.ObjectSteps.{placed_after}
use Rattle.delivery.proofs.DeliveriesInRange.{ready_mark}
use Rattle.delivery.proofs.DeliveredRows.{inside_apart, frame_apart}
use Rattle.transmission.specs.Requests.{ipdu, after_request, confirmed, timer_set}
use Rattle.timing.specs.Periods.{has_period, period_set, period_turn, set_periods}
use Rattle.timing.specs.Ticks.{tick_delay, deadline_expires, tick_deadline, tick_period, timer_expires, tick_timer}
use Rattle.timing.proofs.PeriodsInRange.{ready_periods}
use Rattle.calls.specs.Answers.{Outcome}
use Rattle.calls.specs.Calls.{is_object, is_ipdu, stop_in, send_in, initialise_in, receive_in, status_in, marks_in, clear_marks_in, periodic_in, indication_in, confirm_in}
use Rattle.calls.specs.Tick.{TickResult, tick_as, tick_ipdu, tick_result, tick_turn, tick_in}
use Rattle.calls.proofs.Records.{object_there, ipdu_there, ipdu_short}
use Rattle.calls.proofs.SlotRows.{pack_row}
use Rattle.calls.proofs.SendParts.{here, inner, inner_ready, judge, after}
use Rattle.calls.proofs.FilteredRows.{sent_row}
use Rattle.calls.proofs.ReadyKept.{mark_few, ready_due, ready_copied, ready_delivered, ready_confirmed, ready_ticks}

module _ (t : List ℕ) (c : Counts) (i : ℕ) (low : i < c.objects) where
  abbrev pub count_of : List ℕ → ℕ
  count_of m = (object_state m i).occurrence

  -- a row that stays
  same_row : (m n : List ℕ) → object_state n i ≡ object_state m i → count_of n ≡ count_of m
  same_row m n = ap (λ (s : ObjectState). s.occurrence)

  -- one of two outcomes, and a memory changed or not
  stays_pick : (b : Bool) (x y : Outcome) (n : ℕ) → (b ≡ true → count_of x.memory ≡ n) → count_of y.memory ≡ n → count_of (pick b x y).memory ≡ n
  stays_pick b x y n p q = picked (λ (o : Outcome). count_of o.memory ≡ n) b x y p (λ e. q)

  stays_if : (b : Bool) (n m : List ℕ) → (b ≡ true → count_of n ≡ count_of m) → count_of (pick b n m) ≡ count_of m
  stays_if b n m p = picked (λ (l : List ℕ). count_of l ≡ count_of m) b n m p (λ e. refl)

  module _ (m : List ℕ) (ready : Ready t c m) where
    -- ---- rows and slots

    -- a row of an object set, with the occurrence kept where it is this one
    stays_object : (j : ℕ) → j < c.objects → (s : ObjectState) → (j ≡ i → s.occurrence ≡ count_of m) → count_of (with_object_state m j s) ≡ count_of m
    stays_object j h s same =
        ⊎_elim
        (λ (e : j ≡ i).
        rw e (object_occurrence m i s (object_row_lem t c m ready i low) (omega (arith, same e, (object_fits m i ready.bytes).occurrence)) ∙ same e))
        (λ (ne : j ≡ i → ⊥). same_row m (with_object_state m j s) (object_other m j s (object_row_lem t c m ready j h) i (λ e. ne (sym e))))
        (eq_or_ne j i)

    -- the row of an I-PDU
    stays_ipdu : (k : ℕ) → k < c.ipdus → (s : IpduState) → count_of (with_ipdu_state m k s) ≡ count_of m
    stays_ipdu k h s =
        same_row m (with_ipdu_state m k s) (ipdu_keeps_objects m k s (ipdu_row_lem t c m ready k h) (omega (arith, h, ready.right.shape.ipdus)) i)

    -- the bits of an object
    stays_pack : (j v : ℕ) → j < c.objects → (n : List ℕ) → length n ≡ length m → count_of (pack (object t c j) v n) ≡ count_of n
    stays_pack j v h n long =
        let o = object t c j in
        same_row n (pack o v n) (pack_row o v n (placed_after o m n (ready_placed t c m ready j h) long) i)

    -- bytes of a slot
    stays_slot : (k : ℕ) → k < c.ipdus → (f : List ℕ) → length f ≤ 8 → count_of (replaced (slot_at k) f m) ≡ count_of m
    stays_slot k h f few =
        let below : k < most_ipdus = omega (arith, h, ready.right.shape.ipdus) in
        same_row m (replaced (slot_at k) f m) (slot_keeps_objects m k f few below (omega (arith, below, few, ready.long)) i)

  module _ (m : List ℕ) (ready : Ready t c m) where
    -- marks on the objects of an I-PDU
    stays_marked : (k mark : ℕ) → mark ≤ 15 → count_of (mark_objects t c k mark m) ≡ count_of m
    unfolding mark_objects marked
    stays_marked k mark few =
        fold_view count_of c.objects (mark_turn t c k mark) m
        (λ j b.
        let l = fold j (mark_turn t c k mark) m in
        stays_if (eqb (object_record t c.ipdus j).ipdu k) (with_object_state l j (marked mark (object_state l j))) l
        (λ y. stays_object l (ready_mark t c k mark j few (omega (arith, b)) m ready) j b (marked mark (object_state l j)) (λ e. rw e)))

    -- and where a time has run out, with the row of the I-PDU
    stays_due : (due : Bool) (k mark : ℕ) → mark ≤ 15 → k < c.ipdus → (s : IpduState)
        → count_of (with_ipdu_state (pick due (mark_objects t c k mark m) m) k s) ≡ count_of m
    stays_due due k mark few h s =
        let n = pick due (mark_objects t c k mark m) m in
        stays_ipdu n (ready_due t c due k mark few m ready) k h s ∙ stays_if due (mark_objects t c k mark m) m (λ e. stays_marked k mark few)

    stays_tick_as : (d : Direction) (k : ℕ) → k < c.ipdus → (area : List ℕ) → count_of (tick_as d t c k area m).memory ≡ count_of m
    stays_tick_as Send k h area =
        let s = tick_delay (ipdu_state m k) in
        stays_due (deadline_expires s) k mark_send_error (omega arith) h (after_request (ipdu t k) (tick_period (ipdu t k) (tick_deadline s)))
    stays_tick_as Receive k h area =
        let s = ipdu_state m k in
        stays_due (timer_expires s) k mark_receive_error (omega arith) h (tick_timer (ipdu t k) s)

  -- ---- the calls

  module _ (m : List ℕ) (ready : Ready t c m) where
    pub stays_stop : count_of (stop_in m).memory ≡ count_of m
    unfolding stop_in
    stays_stop = same_row m (stop_in m).memory (running_row m 0 ready.long i)

    -- ---- send and initialise

    pub stays_send : (j v : ℕ) → v < 2 ^ 32 → (area : List ℕ) → eqb i j ≡ false → eqb (object_record t c.ipdus i).sender j ≡ false
        → count_of (send_in t c j v area m).memory ≡ count_of m
    stays_send j v small area other apart =
        ⊎_elim sent (λ (no : is_object t c sending j ≡ false). unfold send_in in rw no refl) (true_or_false (is_object t c sending j))
      where
        sent : is_object t c sending j ≡ true → count_of (send_in t c j v area m).memory ≡ count_of m
        sent is =
            let l = inner t c m ready j is v small area in
            let s = after_filter (judge t c m ready j is v small area) (object t c j) v (object_state l j) in
            same_row (after t c m ready j is v small area) (send_in t c j v area m).memory (sent_row t c m ready j is v small area i)
            ∙ stays_object l (inner_ready t c m ready j is v small area) j (here t c m ready j is v small area) s (λ e. absurd (eqb-false i j other (sym e)))
            ∙ same_row m l (inside_apart t c m ready j v i small low apart)

    stays_initialise_as : (j v : ℕ) → j < c.objects → (d : Direction) → count_of (initialise_as d (object t c j) j v m) ≡ count_of m
    stays_initialise_as j v h Send =
        let s = with_old v (object_state m j) in
        stays_pack m ready j v h (with_object_state m j s) (object_length m j s (object_row_lem t c m ready j h)) ∙ stays_object m ready j h s (λ e. rw e)
    stays_initialise_as j v h Receive = stays_object m ready j h (with_old v (with_value v (with_queue 0 0 0 (object_state m j)))) (λ e. rw e)

    pub stays_initialise : (j v : ℕ) → count_of (initialise_in t c j v m).memory ≡ count_of m
    unfolding initialise_in initialise
    stays_initialise j v =
        stays_pick (ltb j c.objects) _ _ (count_of m) (λ e. stays_initialise_as j v (ltb-true j c.objects e) (object t c j).direction) refl

    -- ---- receive, status, marks

    pub stays_receive : (j : ℕ) → count_of (receive_in t c j m).memory ≡ count_of m
    unfolding receive_in dequeue
    stays_receive j =
        stays_pick (is_object t c receiving j) _ _ (count_of m)
        (λ is.
        let depth = (object_record t c.ipdus j).depth in
        stays_pick (eqb depth 0) _ _ (count_of m) (λ e. refl)
        (stays_pick (eqb (object_state m j).count 0) _ _ (count_of m) (λ e. refl)
        (stays_object m ready j (object_there t c receiving j is) (dequeued depth (object_state m j)) (λ e. rw e))))
        refl

    pub stays_status : (j : ℕ) → count_of (status_in t c j m).memory ≡ count_of m
    unfolding status_in
    stays_status j = stays_pick (is_object t c receiving j && not (eqb (object_record t c.ipdus j).depth 0)) _ _ (count_of m) (λ e. refl) refl

    pub stays_marks : (j : ℕ) → count_of (marks_in c j m).memory ≡ count_of m
    unfolding marks_in
    stays_marks j = stays_pick (ltb j c.objects) _ _ (count_of m) (λ e. refl) refl

    pub stays_clear : (j : ℕ) → count_of (clear_marks_in c j m).memory ≡ count_of m
    unfolding clear_marks_in
    stays_clear j =
        stays_pick (ltb j c.objects) _ _ (count_of m)
        (λ y. stays_object m ready j (ltb-true j c.objects y) (with_marks 0 (object_state m j)) (λ e. rw e)) refl

    -- ---- periods, indication, confirm

    pub stays_periodic : (on : Bool) → count_of (periodic_in on t c m).memory ≡ count_of m
    unfolding periodic_in set_periods
    stays_periodic on =
        fold_view count_of c.ipdus (period_turn on t) m
        (λ k b.
        let l = fold k (period_turn on t) m in
        stays_if (has_period (ipdu t k).mode) (with_ipdu_state l k (period_set on (ipdu t k) (ipdu_state l k))) l
        (λ e. stays_ipdu l (ready_periods t c on k (omega (arith, b)) m ready) k b (period_set on (ipdu t k) (ipdu_state l k))))

    pub stays_bad : (k : ℕ) (f : List ℕ) → count_of (indication_in t c k false f m).memory ≡ count_of m
    unfolding indication_in
    stays_bad k f = stays_pick (is_ipdu t c receiving k) _ _ (count_of m) (λ e. stays_marked m ready k mark_receive_error (omega arith)) refl

    pub stays_good : (k : ℕ) (f : List ℕ) → Bytes f → eqb (object_record t c.ipdus i).ipdu k ≡ false
        → count_of (indication_in t c k true f m).memory ≡ count_of m
    unfolding indication_in
    stays_good k f bytes apart =
        stays_pick (is_ipdu t c receiving k) _ _ (count_of m)
        (λ e.
        let h = ipdu_there t c receiving k e in
        stays_pick (eqb (length f) (ipdu_record t k).length) _ _ (count_of m)
        (λ same.
        let exact = eqb-true (length f) (ipdu_record t k).length same in
        let l = replaced (slot_at k) f m in
        let n = deliver_frame t c k l in
        stays_ipdu n (ready_delivered t c m ready k h f bytes exact) k h (timer_set (ipdu t k) (ipdu_state n k))
        ∙ same_row l n (frame_apart t c l (ready_copied t c m ready k h f bytes exact) k i low apart)
        ∙ stays_slot m ready k h f (omega (arith, exact, ipdu_short t c ready.right k h)))
        refl)
        refl

    pub stays_confirm : (k : ℕ) (good : Bool) → count_of (confirm_in t c k good m).memory ≡ count_of m
    unfolding confirm_in
    stays_confirm k good =
        stays_pick (is_ipdu t c sending k) _ _ (count_of m)
        (λ e.
        stays_pick (eqb (ipdu_state m k).requested 0) _ _ (count_of m) (λ z. refl)
        (let s = confirmed good (ipdu t k) (ipdu_state m k) in
        stays_marked (with_ipdu_state m k s) (ready_confirmed t c m ready k good e) k (pick good mark_sent mark_send_error) (mark_few good)
        ∙ stays_ipdu m ready k (ipdu_there t c sending k e) s))
        refl

    -- ---- tick

    pub stays_tick : (area : List ℕ) → count_of (tick_in t c area m).memory ≡ count_of m
    unfolding tick_in tick_ipdu
    stays_tick area =
        fold_view (λ (a : TickResult). count_of a.memory) c.ipdus (tick_turn t c) (tick_result 0 m area)
        (λ k b.
        let a = fold k (tick_turn t c) (tick_result 0 m area) in
        stays_tick_as a.memory (ready_ticks t c k (omega (arith, b)) area m ready) (ipdu t k).direction k b a.area)
