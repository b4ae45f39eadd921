-- Each call over an accepted table keeps every stored number in its range.
-- Assumes: a value that is sent or initialised has 32 bits, and an indication is lent bytes.
use Rattle.std.proofs.Common.{Bool, true, false, not, ◌&&◌, List, ⊎_elim, ◌≡◌, refl, ◌∙◌, ℕ, ◌+◌, ◌-◌, ◌^◌, ◌≤◌, ◌<◌, arith, eqb-true, ltb-true, ltb, eqb, length}
use borrow.Author.Tests.{eqb-false}
use Rattle.memory.specs.Bytes.{Bytes, replaced}
use Rattle.memory.specs.Search.{pick}
use Rattle.memory.proofs.Search.{picked, fold_keeps}
use Rattle.memory.proofs.Tests.{true_or_false}
use Rattle.table.specs.declared.Counts.{Counts}
use Rattle.config.specs.declared.Direction.{Direction}
use Rattle.config.specs.declared.Direction.TheVariants.{Send, Receive}
use Rattle.table.specs.Records.{receiving, sending, ipdu_record, object_record}
use Rattle.table.specs.Check.{depths}
use Rattle.config.specs.Decode.{ipdu_of, object_of}
use Rattle.table.proofs.Accepted.{usable}
use Rattle.state.specs.Layout.{slot_at, ipdu_state, with_ipdu_state, object_state, with_object_state}
use Rattle.state.specs.Updates.{with_old, with_value, with_marks, with_queue, with_wanted}
use Rattle.state.specs.Ranges.{Ready}
use Rattle.state.proofs.Ready.{ready_kept, ready_object}
use Rattle.state.proofs.Running.{ready_running}
use Rattle.message.specs.Objects.{object, pack, initialise_as, initialise, mark_sent, mark_receive_error, mark_send_error}
use Rattle.queue.specs.Queues.{around, dequeued, dequeue}
use Rattle.delivery.specs.Delivery.{deliver_frame, mark_objects}
use Rattle.queue.proofs.RingPlaces.{around_lt}
use Rattle.message.proofs.ObjectsInRange.{kept_old, kept_value, kept_marks, kept_queue, ready_pack}
use Rattle.delivery.proofs.DeliveriesInRange.{ready_frame, ready_mark}
use Rattle.transmission.specs.Requests.{ipdu, after_request, confirmed}
use Rattle.timing.specs.Periods.{set_periods}
use Rattle.timing.specs.Ticks.{tick_delay, deadline_expires, tick_deadline, tick_period, timer_expires, tick_timer}
use Rattle.transmission.proofs.RequestsInRange.{ready_send_row, ready_receive_row, kept_wanted, kept_offered, kept_confirmed, ready_send_kept, ready_receive_kept, ready_timer}
use Rattle.timing.proofs.PeriodsInRange.{ready_periods}
use Rattle.timing.proofs.TicksInRange.{kept_tick_delay, kept_tick_deadline, kept_tick_period, kept_tick_timer}
use Rattle.calls.specs.Answers.{Outcome}
use Rattle.calls.specs.Calls.{is_object, is_ipdu, stop_in, wants, request, send_in, initialise_in, receive_in, status_in, marks_in, clear_marks_in, periodic_in, indication_in, confirm_in}
use Rattle.calls.specs.Tick.{TickResult, tick_as, tick_ipdu, tick_result, tick_turn, ticks, tick_in}
use Rattle.calls.proofs.Records.{object_there, object_kind, ipdu_there, ipdu_direction, ipdu_sends, ipdu_receives, wants_some}
use Rattle.calls.proofs.Outcomes.{copied_ready}
use Rattle.calls.proofs.SendParts.{here, judge, after, after_ready, sent_as}

-- the mark of a confirm
pub mark_few : (good : Bool) → pick good mark_sent mark_send_error ≤ 15
mark_few good = picked (λ (mark : ℕ). mark ≤ 15) good mark_sent mark_send_error (λ y. omega arith) (λ n. omega arith)

module _ (t : List ℕ) (c : Counts) where
  ready_pick : (b : Bool) (x y : Outcome) → (b ≡ true → Ready t c x.memory) → Ready t c y.memory → Ready t c (pick b x y).memory
  ready_pick b x y p q = picked (λ (o : Outcome). Ready t c o.memory) b x y p (λ e. q)

  -- marks on the objects of an I-PDU
  pub ready_marked : (k mark : ℕ) → mark ≤ 15 → (m : List ℕ) → Ready t c m → Ready t c (mark_objects t c k mark m)
  unfolding mark_objects
  ready_marked k mark few = ready_mark t c k mark c.objects few (omega arith)

  -- and where a time has run out
  pub ready_due : (due : Bool) (k mark : ℕ) → mark ≤ 15 → (m : List ℕ) → Ready t c m → Ready t c (pick due (mark_objects t c k mark m) m)
  ready_due due k mark few m ready = picked (Ready t c) due (mark_objects t c k mark m) m (λ e. ready_marked k mark few m ready) (λ e. ready)

  -- a request that a send wants, made or postponed
  pub ready_request : (i : ℕ) → is_object t c sending i ≡ true → (area m : List ℕ) → Ready t c m → Ready t c (request t (object t c i) area m).memory
  unfolding request object_of
  ready_request i is area m ready =
      ready_pick (wants t (object t c i)) _ _
      (λ w.
      let k = (object_record t c.ipdus i).ipdu in
      let there = (usable t c ready.right i (object_there t c sending i is)).ipdu (wants_some t (object t c i) w) in
      let d = ipdu_sends t k (there.1 ∙ object_kind t c sending i is) in
      ready_send_row t c m ready k there.0 d (after_request (ipdu t k) (with_wanted 1 (ipdu_state m k)))
      (kept_offered (ipdu t k) (with_wanted 1 (ipdu_state m k)) (kept_wanted (ipdu t k) (ipdu_state m k) (ready_send_kept t c m ready k there.0 d))))
      ready

  module _ (m : List ℕ) (ready : Ready t c m) where
    pub ready_stop : Ready t c (stop_in m).memory
    unfolding stop_in
    ready_stop = ready_running t c m ready 0 (omega arith)

    -- ---- send and initialise

    pub ready_send : (i v : ℕ) → v < 2 ^ 32 → (area : List ℕ) → Ready t c (send_in t c i v area m).memory
    ready_send i v small area = ⊎_elim sent (λ (no : is_object t c sending i ≡ false). unfold send_in in rw no ready) (true_or_false (is_object t c sending i))
      where
        sent : is_object t c sending i ≡ true → Ready t c (send_in t c i v area m).memory
        sent is =
            let n = after t c m ready i is v small area in
            let next = after_ready t c m ready i is v small area in
            rw (sent_as t c m ready i is v small area (judge t c m ready i is v small area) refl)
            (ready_pick (judge t c m ready i is v small area) _ _
            (λ p. ready_request i is area (pack (object t c i) v n) (ready_pack t c n next i (here t c m ready i is v small area) v)) next)

    pub ready_initialise_as : (i v : ℕ) → v < 2 ^ 32 → i < c.objects → (d : Direction) → Ready t c (initialise_as d (object t c i) i v m)
    ready_initialise_as i v small h Send =
        let s = with_old v (object_state m i) in
        ready_pack t c (with_object_state m i s)
        (ready_object t c m ready i h s (kept_old (object_record t c.ipdus i) (depths t c i) v (object_state m i) small (ready_kept t c m ready i h))) i h v
    ready_initialise_as i v small h Receive =
        let s = with_queue 0 0 0 (object_state m i) in
        ready_object t c m ready i h (with_old v (with_value v s))
        (kept_old (object_record t c.ipdus i) (depths t c i) v (with_value v s) small
        (kept_value (object_record t c.ipdus i) (depths t c i) v s small
        (kept_queue (object_record t c.ipdus i) (depths t c i) 0 0 0 (object_state m i) (omega arith) (omega arith) (omega arith) (ready_kept t c m ready i h))))

    pub ready_initialise : (i v : ℕ) → v < 2 ^ 32 → Ready t c (initialise_in t c i v m).memory
    unfolding initialise_in initialise
    ready_initialise i v small =
        ready_pick (ltb i c.objects) _ _ (λ e. ready_initialise_as i v small (ltb-true i c.objects e) (object t c i).direction) ready

    -- ---- receive, status, marks

    -- a value taken from a queue
    ready_dequeue : (i : ℕ) → i < c.objects → eqb (object_record t c.ipdus i).depth 0 ≡ false → Ready t c (dequeue (object_record t c.ipdus i).depth i m)
    unfolding dequeue
    ready_dequeue i h some =
        let depth = (object_record t c.ipdus i).depth in
        let kept = ready_kept t c m ready i h in
        let deep = eqb-false depth 0 some in
        let low = around_lt depth ((object_state m i).head + 1) (omega (arith, deep, kept.head)) in
        ready_object t c m ready i h (dequeued depth (object_state m i))
        (kept_queue (object_record t c.ipdus i) (depths t c i) 0 (around depth ((object_state m i).head + 1)) ((object_state m i).count - 1) (object_state m i)
        (omega arith) (omega (arith, kept.count)) (omega (arith, low)) kept)

    pub ready_receive : (i : ℕ) → Ready t c (receive_in t c i m).memory
    unfolding receive_in
    ready_receive i =
        ready_pick (is_object t c receiving i) _ _
        (λ is.
        picked (λ (o : Outcome). Ready t c o.memory) (eqb (object_record t c.ipdus i).depth 0) _ _ (λ e. ready)
        (λ e. ready_pick (eqb (object_state m i).count 0) _ _ (λ z. ready) (ready_dequeue i (object_there t c receiving i is) e)))
        ready

    pub ready_status : (i : ℕ) → Ready t c (status_in t c i m).memory
    unfolding status_in
    ready_status i = ready_pick (is_object t c receiving i && not (eqb (object_record t c.ipdus i).depth 0)) _ _ (λ e. ready) ready

    pub ready_marks : (i : ℕ) → Ready t c (marks_in c i m).memory
    unfolding marks_in
    ready_marks i = ready_pick (ltb i c.objects) _ _ (λ e. ready) ready

    pub ready_clear_marks : (i : ℕ) → Ready t c (clear_marks_in c i m).memory
    unfolding clear_marks_in
    ready_clear_marks i =
        ready_pick (ltb i c.objects) _ _
        (λ e.
        let h = ltb-true i c.objects e in
        ready_object t c m ready i h (with_marks 0 (object_state m i))
        (kept_marks (object_record t c.ipdus i) (depths t c i) 0 (object_state m i) (omega arith) (ready_kept t c m ready i h)))
        ready

    -- ---- periods, indication, confirm

    pub ready_periodic : (on : Bool) → Ready t c (periodic_in on t c m).memory
    unfolding periodic_in set_periods
    ready_periodic on = ready_periods t c on c.ipdus (omega arith) m ready

    -- the bytes of a frame copied to the slot, and delivered
    module _ (k : ℕ) (low : k < c.ipdus) (f : List ℕ) (bytes : Bytes f) (exact : length f ≡ (ipdu_record t k).length) where
      pub ready_copied : Ready t c (replaced (slot_at k) f m)
      unfolding ipdu_of
      ready_copied = copied_ready t c k f m (ipdu t k) refl exact ready low (replaced (slot_at k) f m) bytes refl

      pub ready_delivered : Ready t c (deliver_frame t c k (replaced (slot_at k) f m))
      unfolding deliver_frame
      ready_delivered = ready_frame t c k c.objects (omega arith) (replaced (slot_at k) f m) ready_copied

    pub ready_indication : (k : ℕ) (good : Bool) (f : List ℕ) → Bytes f → Ready t c (indication_in t c k good f m).memory
    unfolding indication_in
    ready_indication k false f bytes = ready_pick (is_ipdu t c receiving k) _ _ (λ e. ready_marked k mark_receive_error (omega arith) m ready) ready
    ready_indication k true f bytes =
        ready_pick (is_ipdu t c receiving k) _ _
        (λ e.
        let low = ipdu_there t c receiving k e in
        ready_pick (eqb (length f) (ipdu_record t k).length) _ _
        (λ same.
        ready_timer t c (deliver_frame t c k (replaced (slot_at k) f m)) (ready_delivered k low f bytes (eqb-true (length f) (ipdu_record t k).length same)) k low
        (ipdu_receives t k (ipdu_direction t c receiving k e)))
        ready)
        ready

    -- the row of a send I-PDU whose request was closed
    pub ready_confirmed : (k : ℕ) (good : Bool) → is_ipdu t c sending k ≡ true → Ready t c (with_ipdu_state m k (confirmed good (ipdu t k) (ipdu_state m k)))
    ready_confirmed k good e =
        let low = ipdu_there t c sending k e in
        let d = ipdu_sends t k (ipdu_direction t c sending k e) in
        ready_send_row t c m ready k low d (confirmed good (ipdu t k) (ipdu_state m k))
        (kept_confirmed good (ipdu t k) (ipdu_state m k) (ready_send_kept t c m ready k low d))

    pub ready_confirm : (k : ℕ) (good : Bool) → Ready t c (confirm_in t c k good m).memory
    unfolding confirm_in
    ready_confirm k good =
        ready_pick (is_ipdu t c sending k) _ _
        (λ e.
        ready_pick (eqb (ipdu_state m k).requested 0) _ _ (λ z. ready)
        (ready_marked k (pick good mark_sent mark_send_error) (mark_few good)
        (with_ipdu_state m k (confirmed good (ipdu t k) (ipdu_state m k))) (ready_confirmed k good e)))
        ready

  -- ---- tick

  module _ (k : ℕ) (h : k < c.ipdus) (area m : List ℕ) (ready : Ready t c m) where
    ready_tick_as : (d : Direction) → (ipdu t k).direction ≡ d → Ready t c (tick_as d t c k area m).memory
    ready_tick_as Send d =
        let p = ipdu t k in
        let s = tick_delay (ipdu_state m k) in
        let kept = kept_tick_delay p (ipdu_state m k) (ready_send_kept t c m ready k h d) in
        ready_send_row t c (pick (deadline_expires s) (mark_objects t c k mark_send_error m) m)
        (ready_due (deadline_expires s) k mark_send_error (omega arith) m ready) k h d (after_request p (tick_period p (tick_deadline s)))
        (kept_offered p (tick_period p (tick_deadline s)) (kept_tick_period p (tick_deadline s) (kept_tick_deadline p s kept)))
    ready_tick_as Receive d =
        let p = ipdu t k in
        let s = ipdu_state m k in
        ready_receive_row t c (pick (timer_expires s) (mark_objects t c k mark_receive_error m) m)
        (ready_due (timer_expires s) k mark_receive_error (omega arith) m ready) k h d (tick_timer p s) (kept_tick_timer p s (ready_receive_kept t c m ready k h d))

    pub ready_tick_ipdu : Ready t c (tick_ipdu t c k area m).memory
    unfolding tick_ipdu
    ready_tick_ipdu = ready_tick_as (ipdu t k).direction refl

  -- the first n I-PDUs
  pub ready_ticks : (n : ℕ) → n ≤ c.ipdus → (area m : List ℕ) → Ready t c m → Ready t c (ticks t c n area m).memory
  ready_ticks n most area m ready =
      fold_keeps (λ (a : TickResult). Ready t c a.memory) n (tick_turn t c)
      (λ k h a r. ready_tick_ipdu k (omega (arith, h, most)) a.area a.memory r) (tick_result 0 m area) ready

  pub ready_tick : (m : List ℕ) → Ready t c m → (area : List ℕ) → Ready t c (tick_in t c area m).memory
  unfolding tick_in
  ready_tick m ready area = ready_ticks c.ipdus (omega arith) area m ready
