-- Initialise, stop, and the calls that the book of demand 3 does not see keep working memory a refinement of it.
-- Assumes nothing.
use Rattle.std.proofs.Common.{Bool, true, false, not, ◌&&◌, List, ⊎_elim, ◌≡◌, refl, sym, subst, ℕ, ◌^◌, ◌<◌, arith, eqb-true, ltb-true, ltb, eqb, length}
use borrow.Author.Tests.{eqb-false}
use Rattle.memory.specs.Bytes.{Bytes, replaced}
use Rattle.memory.specs.Search.{pick}
use Rattle.memory.proofs.Search.{picked}
use Rattle.memory.proofs.Tests.{true_or_false}
use Rattle.table.specs.declared.Counts.{Counts}
use Rattle.config.specs.declared.Direction.{Direction}
use Rattle.config.specs.declared.Direction.TheVariants.{Send, Receive}
use Rattle.table.specs.Records.{receiving, sending, ipdu_record, object_record}
use Rattle.table.specs.Check.{depths}
use Rattle.state.specs.Layout.{slot_at, object_state, ipdu_state, with_ipdu_state}
use Rattle.state.specs.Updates.{with_old, with_value, with_marks, with_queue}
use Rattle.state.specs.Ranges.{Ready}
use Rattle.state.proofs.Ready.{ObjectKept, ready_kept}
use Rattle.message.specs.Objects.{object, mark_sent, mark_send_error, initialise_as, initialise}
use Rattle.queue.specs.Queues.{dequeue}
use Rattle.delivery.specs.Delivery.{deliver_frame}
use Rattle.message.proofs.ObjectsInRange.{kept_old, kept_marks}
use Rattle.transmission.specs.Requests.{ipdu, confirmed}
use Rattle.calls.specs.Answers.{Outcome}
use Rattle.calls.specs.Calls.{is_object, is_ipdu, stop_in, initialise_in, receive_in, status_in, marks_in, clear_marks_in, periodic_in, indication_in, confirm_in}
use Rattle.calls.proofs.Records.{object_there, object_kind, object_sends, object_receives, ipdu_there, ipdu_direction, ipdu_short}
use Rattle.calls.proofs.ReadyKept.{mark_few, ready_initialise_as, ready_copied, ready_delivered, ready_confirmed}
use Rattle.trace.specs.Book.{Book, enter, sends}
use Rattle.trace.proofs.Refines.{Refines, refines_unchanged, refines_running}
use Rattle.trace.proofs.BookUnchanged.{BookUnchanged, unchanged_refl, unchanged_then, unchanged_object, unchanged_ipdu, unchanged_slot, unchanged_frame, unchanged_mark, unchanged_periods}
use Rattle.trace.proofs.SendRefines.{refines_entry}

module _ (t : List ℕ) (c : Counts) where
  -- ---- initialise

  module _ (b : Book) (m : List ℕ) (a : Refines t c b m) (i v : ℕ) (small : v < 2 ^ 32) (h : i < c.objects) where
    own : ObjectKept (object_record t c.ipdus i) (depths t c i) (object_state m i)
    own = ready_kept t c m a.ready i h

    initialise_send : (object_record t c.ipdus i).kind ≡ sending
        → Refines t c (record { entries = enter i v b.entries; counts = b.counts; stopped = b.stopped }) (initialise_as Send (object t c i) i v m)
    initialise_send one =
        refines_entry t c b m a i h v (with_old v (object_state m i)) (kept_old (object_record t c.ipdus i) (depths t c i) v (object_state m i) small own) b.counts refl
        (a.count i h one) (λ j ne. refl)

    initialise_receive : ((object_record t c.ipdus i).kind ≡ sending → ⊥) → Refines t c b (initialise_as Receive (object t c i) i v m)
    initialise_receive received =
        refines_unchanged t c b m (initialise_as Receive (object t c i) i v m) a (ready_initialise_as t c m a.ready i v small h Receive)
        (unchanged_object t c m a.ready i h (with_old v (with_value v (with_queue 0 0 0 (object_state m i)))) (λ one. absurd (received one)))

  by_direction : (b : Book) (m : List ℕ) (i v : ℕ) (d : Direction) → (object t c i).direction ≡ d → Refines t c b (initialise_as d (object t c i) i v m)
      → Refines t c b (initialise (object t c i) i v m)
  unfolding initialise
  by_direction b m i v d e x = subst (λ (z : Direction). Refines t c b (initialise_as z (object t c i) i v m)) (sym e) x

  pub refines_initialise : (b : Book) (m : List ℕ) → Refines t c b m → (i v : ℕ) → v < 2 ^ 32
      → Refines t c (pick (sends t c i) (record { entries = enter i v b.entries; counts = b.counts; stopped = b.stopped }) b) (initialise_in t c i v m).memory
  unfolding initialise_in
  refines_initialise b m a i v small =
      ⊎_elim
      (λ (e : ltb i c.objects ≡ true).
      let h = ltb-true i c.objects e in
      ⊎_elim
      (λ (k : eqb (object_record t c.ipdus i).kind sending ≡ true).
      rw (e, k)
      (by_direction _ m i v Send (object_sends t c i k)
      (initialise_send b m a i v small h (eqb-true (object_record t c.ipdus i).kind sending k))))
      (λ (k : eqb (object_record t c.ipdus i).kind sending ≡ false).
      rw (e, k)
      (by_direction b m i v Receive (object_receives t c i k)
      (initialise_receive b m a i v small h (eqb-false (object_record t c.ipdus i).kind sending k))))
      (true_or_false (eqb (object_record t c.ipdus i).kind sending)))
      (λ (e : ltb i c.objects ≡ false). rw e a)
      (true_or_false (ltb i c.objects))

  -- ---- calls that the book does not see

  pick_unchanged : (b : Bool) (m : List ℕ) (x y : Outcome) → (b ≡ true → BookUnchanged t c m x.memory) → BookUnchanged t c m y.memory → BookUnchanged t c m (pick b x y).memory
  pick_unchanged b m x y p q = picked (λ (o : Outcome). BookUnchanged t c m o.memory) b x y p (λ e. q)

  module _ (m : List ℕ) (ready : Ready t c m) where
    as_found : BookUnchanged t c m m
    as_found = unchanged_refl t c m

    -- a queue that a value is taken from is a receive object's
    pub unchanged_receive : (i : ℕ) → BookUnchanged t c m (receive_in t c i m).memory
    unfolding receive_in dequeue
    unchanged_receive i =
        pick_unchanged (is_object t c receiving i) m _ _
        (λ is.
        let two = object_kind t c receiving i is in
        pick_unchanged (eqb (object_record t c.ipdus i).depth 0) m _ _ (λ e. as_found)
        (pick_unchanged (eqb (object_state m i).count 0) m _ _ (λ z. as_found)
        (unchanged_object t c m ready i (object_there t c receiving i is) _ (λ one. absurd (omega (arith, one, two))))))
        as_found

    pub unchanged_status : (i : ℕ) → BookUnchanged t c m (status_in t c i m).memory
    unfolding status_in
    unchanged_status i = pick_unchanged (is_object t c receiving i && not (eqb (object_record t c.ipdus i).depth 0)) m _ _ (λ e. as_found) as_found

    pub unchanged_marks : (i : ℕ) → BookUnchanged t c m (marks_in c i m).memory
    unfolding marks_in
    unchanged_marks i = pick_unchanged (ltb i c.objects) m _ _ (λ e. as_found) as_found

    pub unchanged_clear : (i : ℕ) → BookUnchanged t c m (clear_marks_in c i m).memory
    unfolding clear_marks_in
    unchanged_clear i =
        pick_unchanged (ltb i c.objects) m _ _
        (λ e.
        let h = ltb-true i c.objects e in
        unchanged_object t c m ready i h (with_marks 0 (object_state m i))
        (λ one. (kept_marks (object_record t c.ipdus i) (depths t c i) 0 (object_state m i) (omega arith) (ready_kept t c m ready i h), refl, refl)))
        as_found

    pub unchanged_periodic : (on : Bool) → BookUnchanged t c m (periodic_in on t c m).memory
    unfolding periodic_in
    unchanged_periodic on = unchanged_periods t c on m ready

    pub unchanged_indication : (k : ℕ) (good : Bool) (f : List ℕ) → Bytes f → BookUnchanged t c m (indication_in t c k good f m).memory
    unfolding indication_in
    unchanged_indication k false f bytes = pick_unchanged (is_ipdu t c receiving k) m _ _ (λ e. unchanged_mark t c k 4 (omega arith) m ready) as_found
    unchanged_indication k true f bytes =
        pick_unchanged (is_ipdu t c receiving k) m _ _
        (λ e.
        let low = ipdu_there t c receiving k e in
        let two = ipdu_direction t c receiving k e in
        pick_unchanged (eqb (length f) (ipdu_record t k).length) m _ _
        (λ same.
        let exact = eqb-true (length f) (ipdu_record t k).length same in
        let copied = replaced (slot_at k) f m in
        unchanged_then t c m copied _
        (unchanged_slot t c m ready k low (λ one. omega (arith, one, two)) f (omega (arith, exact, ipdu_short t c ready.right k low)))
        (unchanged_then t c copied (deliver_frame t c k copied) _ (unchanged_frame t c k low two copied (ready_copied t c m ready k low f bytes exact))
        (unchanged_ipdu t c (deliver_frame t c k copied) (ready_delivered t c m ready k low f bytes exact) k low _)))
        as_found)
        as_found

    pub unchanged_confirm : (k : ℕ) (good : Bool) → BookUnchanged t c m (confirm_in t c k good m).memory
    unfolding confirm_in
    unchanged_confirm k good =
        pick_unchanged (is_ipdu t c sending k) m _ _
        (λ e.
        let closed = with_ipdu_state m k (confirmed good (ipdu t k) (ipdu_state m k)) in
        pick_unchanged (eqb (ipdu_state m k).requested 0) m _ _ (λ z. as_found)
        (unchanged_then t c m closed _ (unchanged_ipdu t c m ready k (ipdu_there t c sending k e) _)
        (unchanged_mark t c k (pick good mark_sent mark_send_error) (mark_few good) closed (ready_confirmed t c m ready k good e))))
        as_found

  -- ---- stop

  pub refines_stop : (b : Book) (m : List ℕ) → Refines t c b m → Refines t c (record { entries = b.entries; counts = b.counts; stopped = true }) (stop_in m).memory
  unfolding stop_in
  refines_stop b m a = refines_running t c b m a true
