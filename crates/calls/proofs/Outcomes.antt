-- What the calls ask and give, from what their steps gave. The laws ask for plain values, so that a search finds them.
-- Assumes nothing.
use Rattle.std.proofs.Common.{Bool, true, false, List, [], inl, ◌≡◌, sym, ap, ◌∙◌, ℕ, ◌+◌, ◌*◌, ◌^◌, ◌≤◌, ◌<◌, arith, lt-ltb, le-ltb, eq-eqb, ne_eqb, ltb, eqb, length, Err}
use Rattle.memory.specs.Bytes.{Bytes, replaced}
use Rattle.memory.specs.Search.{pick}
use Rattle.filter.specs.Filters.{CountFits}
use Rattle.table.specs.declared.Counts.{Counts}
use Rattle.config.specs.declared.Ipdu.{Ipdu}
use Rattle.config.specs.declared.Object.{Object}
use Rattle.table.specs.declared.ObjectRecord.{ObjectRecord}
use Rattle.table.specs.Records.{most_ipdus, receiving, sending, absent, ipdu_record, object_record, object_base}
use Rattle.table.specs.Check.{Right}
use Rattle.config.specs.Decode.{ipdu_of, object_of}
use Rattle.state.specs.declared.IpduState.{IpduState}
use Rattle.state.specs.declared.ObjectState.{ObjectState}
use Rattle.state.specs.Layout.{row_size, memory_size, slot_at, ipdu_row, ipdu_state, with_ipdu_state, object_row, object_state, with_object_state}
use Rattle.state.specs.Updates.{with_marks, with_wanted}
use Rattle.state.specs.Ranges.{Ready}
use Rattle.state.proofs.Ready.{ready_bytes}
use Rattle.message.specs.Objects.{object, Placed, mark_sent, mark_send_error, mark_receive_error, passes_filter, after_filter, pack, initialise}
use Rattle.queue.specs.Queues.{Held, oldest, dequeue}
use Rattle.delivery.specs.Delivery.{deliver_inside, deliver_frame, mark_objects}
use Rattle.message.proofs.ObjectSteps.{placed_after}
use Rattle.message.proofs.ObjectsInRange.{right_start, ready_held, decoded_count, decoded_placed}
use Rattle.delivery.proofs.DeliveriesInRange.{ready_inside}
use Rattle.transmission.specs.Requests.{ipdu, is_due, after_request, copied_to_area, confirmed, timer_set}
use Rattle.calls.specs.Answers.{Answer}
use Rattle.calls.specs.Answers.{done_with}
use Rattle.calls.specs.declared.Refusal.TheVariants.{WrongId, WrongLength, NoMessage, NotRequested}
use Rattle.calls.specs.Answers.{Outcome, outcome}
use Rattle.calls.specs.Calls.{HasIpdu, is_object, is_ipdu, wants, request, send_of, send_in, initialise_in, limited, receive_queued, receive_in, status_of, status_in}
use Rattle.calls.specs.Calls.{marks_in, clear_marks_in, indication_of, indication_in, confirm_in}
use Rattle.calls.proofs.Records.{object_there, ipdu_there, ipdu_short, has_ipdu, wants_some}

is_true : {test found : Bool} → found ≡ test → found ≡ true → test ≡ true
is_true e passed = sym e ∙ passed

-- a number past the last
pub past_all : {A : Type 0} (i n : ℕ) (x y : A) → n ≤ i → y ≡ pick (ltb i n) x y
past_all i n x y h = rw (le-ltb _ _ h)

-- ---- an object in the table

pub initialised : (t : List ℕ) (c : Counts) (i v : ℕ) (m n : List ℕ) (o : Object) → i < c.objects → o ≡ object t c i → n ≡ initialise o i v m
    → outcome (done_with 0) n [] ≡ initialise_in t c i v m
unfolding initialise_in
initialised t c i v m n o low same does = rw (lt-ltb _ _ low, does, same)

module _ (c : Counts) (i : ℕ) (m : List ℕ) (s : ObjectState) (low : i < c.objects) (row : s ≡ object_state m i) where
  pub marks_given : outcome (done_with s.marks) m [] ≡ marks_in c i m
  unfolding marks_in
  marks_given = rw (lt-ltb _ _ low, row)

  pub marks_cleared_lem : (n : List ℕ) → n ≡ with_object_state m i (with_marks 0 s) → outcome (done_with 0) n [] ≡ clear_marks_in c i m
  unfolding clear_marks_in
  marks_cleared_lem n set = rw (lt-ltb _ _ low, set, row)

-- ---- an object that was found, of its kind

module _ (t : List ℕ) (c : Counts) (kind i : ℕ) (found : Bool) (e : found ≡ is_object t c kind i) (there : found ≡ true) where
  pub found_object : i < c.objects
  found_object = object_there t c kind i (is_true e there)

  pub found_record : Right t c → object_base c.ipdus + 32 * i + 32 ≤ length t
  found_record right = omega (arith, found_object, right.shape.long)

  pub found_start : Right t c → (object_record t c.ipdus i).start < 64
  found_start right = right_start t c i right found_object

  module _ (m : List ℕ) (ready : Ready t c m) where
    pub found_row : object_row i + row_size ≤ length m
    found_row = omega (arith, found_object, ready.right.shape.objects, ready.long)

    pub found_held : (r : ObjectRecord) → r ≡ object_record t c.ipdus i → Held r.depth i m
    unfolding object_of
    found_held r same = rw same (ready_held t c m ready i found_object)

    pub found_row_after : (n : List ℕ) → length n ≡ length m → object_row i + row_size ≤ length n
    found_row_after n long = omega (arith, found_row, long)

    pub found_placed_after : (n q : List ℕ) (o : Object) → length n ≡ length m → length q ≡ length n → o ≡ object t c i → Placed o q
    found_placed_after n q o first long same = placed_after o m q (decoded_placed t c m ready i found_object o same) (long ∙ first)

    -- after internal delivery the object's count is in its range
    pub found_count : (n : List ℕ) (v : ℕ) (o : Object) → v < 2 ^ 32 → n ≡ deliver_inside t c i v m → o ≡ object t c i
        → CountFits o.filter (object_state n i).occurrence
    unfolding deliver_inside
    found_count n v o small inside same =
        decoded_count t c n (rw inside (ready_inside t c i v c.objects small (omega arith) m ready)) i found_object o same

    pub found_has_ipdu : (o : Object) → o ≡ object t c i → HasIpdu t o
    found_has_ipdu o same = rw same (has_ipdu t c m ready i found_object)

-- ---- receive and status

module _ (t : List ℕ) (c : Counts) (i : ℕ) (m : List ℕ) (found : Bool) (e : found ≡ is_object t c receiving i) (there : found ≡ true)
    (r : ObjectRecord) (same : r ≡ object_record t c.ipdus i) where
  pub received : (s : ObjectState) → r.depth ≡ 0 → s ≡ object_state m i → outcome (done_with s.value) m [] ≡ receive_in t c i m
  unfolding receive_in
  received s none row = rw (is_true e there, ← same, eq-eqb _ _ none, row)

  pub received_queued : (a : Answer) (n : List ℕ) → (r.depth ≡ 0 → ⊥) → outcome a n [] ≡ receive_queued r.depth i m → outcome a n [] ≡ receive_in t c i m
  unfolding receive_in
  received_queued a n some does = rw (is_true e there, ← same, ne_eqb _ _ some) does

  pub status_unqueued : r.depth ≡ 0 → outcome (Err WrongId) m [] ≡ status_in t c i m
  unfolding status_in
  status_unqueued none = rw (is_true e there, ← same, eq-eqb _ _ none)

  pub status_queued : (s : ObjectState) (a : Answer) → (r.depth ≡ 0 → ⊥) → s ≡ object_state m i → a ≡ status_of s → outcome a m [] ≡ status_in t c i m
  unfolding status_in
  status_queued s a some row does = rw (is_true e there, ← same, ne_eqb _ _ some, does, row)

pub status_none : (t : List ℕ) (c : Counts) (i : ℕ) (m : List ℕ) (found : Bool) → found ≡ is_object t c receiving i → found ≡ false
    → outcome (Err WrongId) m [] ≡ status_in t c i m
unfolding status_in
status_none t c i m found e failed = rw (sym e ∙ failed)

module _ (depth i : ℕ) (m : List ℕ) (s : ObjectState) (row : s ≡ object_state m i) where
  pub queue_empty : s.count ≡ 0 → outcome (Err NoMessage) m [] ≡ receive_queued depth i m
  queue_empty none = rw (← row, eq-eqb _ _ none)

  pub queue_some : (s.count ≡ 0 → ⊥) → 0 < (object_state m i).count
  queue_some some = rw (← row) (omega arith)

  pub queue_oldest : (v : ℕ) (n : List ℕ) (a : Answer) → (s.count ≡ 0 → ⊥) → v ≡ oldest depth i m → n ≡ dequeue depth i m → a ≡ limited s v
      → outcome a n [] ≡ receive_queued depth i m
  queue_oldest v n a some first rest does = rw (← row, ne_eqb _ _ some, does, first, rest)

-- ---- send

module _ (t : List ℕ) (c : Counts) (i v : ℕ) (area m n q : List ℕ) (found passed : Bool) (o : Object)
    (e : found ≡ is_object t c sending i) (there : found ≡ true) (same : o ≡ object t c i) (inside : n ≡ deliver_inside t c i v m)
    (judge : passed ≡ passes_filter o v (object_state n i)) (row : q ≡ with_object_state n i (after_filter passed o v (object_state n i))) where
  pub send_dropped : passed ≡ false → outcome (done_with 0) q area ≡ send_in t c i v area m
  unfolding send_in send_of
  send_dropped failed = rw (is_true e there, ← same, ← inside, ← judge, ← row, failed)

  pub send_passed : (k : List ℕ) (x : Outcome) → passed ≡ true → k ≡ pack o v q → x ≡ request t o area k → x ≡ send_in t c i v area m
  unfolding send_in send_of
  send_passed k x go packs does = rw (is_true e there, ← same, ← inside, ← judge, ← row, go, ← packs) does

-- ---- a request that is wanted

module _ (t : List ℕ) (o : Object) (found : Bool) (has : HasIpdu t o) (e : found ≡ wants t o) (there : found ≡ true) where
  wanted : eqb o.ipdu.0 absent ≡ false
  wanted = wants_some t o (is_true e there)

  pub wanted_number : o.ipdu.0 < most_ipdus
  wanted_number = has.number wanted

  pub wanted_record : 16 + 16 * o.ipdu.0 + 16 ≤ length t
  wanted_record = has.inside wanted

  pub wanted_row : (m : List ℕ) → memory_size ≤ length m → ipdu_row o.ipdu.0 + 16 ≤ length m
  wanted_row m long = omega (arith, wanted_number, long)

  pub wanted_few : (p : Ipdu) → p ≡ ipdu t o.ipdu.0 → p.length.0 ≤ 8
  wanted_few p same = rw same (has.few wanted)

  pub requested : (area m n b : List ℕ) (w : ℕ) (p : Ipdu) (s : IpduState) → p ≡ ipdu t o.ipdu.0 → s ≡ ipdu_state m o.ipdu.0
      → w ≡ pick (is_due p (with_wanted 1 s)) (2 ^ o.ipdu.0) 0 → n ≡ with_ipdu_state m o.ipdu.0 (after_request p (with_wanted 1 s))
      → b ≡ pick (is_due p (with_wanted 1 s)) (copied_to_area p.length.0 o.ipdu.0 m area) area → outcome (done_with w) n b ≡ request t o area m
  unfolding request
  requested area m n b w p s same row word sets hands = rw (is_true e there, word, sets, hands, same, row)

-- ---- an I-PDU that was found, of its direction

module _ (t : List ℕ) (c : Counts) (direction k : ℕ) (found : Bool) (e : found ≡ is_ipdu t c direction k) (there : found ≡ true) where
  pub found_ipdu : k < c.ipdus
  found_ipdu = ipdu_there t c direction k (is_true e there)

  pub found_ipdu_record : Right t c → 16 + 16 * k + 16 ≤ length t
  found_ipdu_record right = omega (arith, found_ipdu, right.shape.long)

  pub found_ipdu_number : Right t c → k < most_ipdus
  found_ipdu_number right = omega (arith, found_ipdu, right.shape.ipdus)

  pub found_ipdu_row : (m : List ℕ) → Ready t c m → ipdu_row k + row_size ≤ length m
  found_ipdu_row m ready = omega (arith, found_ipdu_number ready.right, ready.long)

-- ---- confirm

module _ (t : List ℕ) (c : Counts) (k : ℕ) (good : Bool) (m : List ℕ) (found : Bool) (s : IpduState)
    (e : found ≡ is_ipdu t c sending k) (there : found ≡ true) (row : s ≡ ipdu_state m k) where
  pub not_requested : s.requested ≡ 0 → outcome (Err NotRequested) m [] ≡ confirm_in t c k good m
  unfolding confirm_in
  not_requested none = rw (is_true e there, ← row, eq-eqb _ _ none)

  pub confirms : (p : Ipdu) (n q : List ℕ) (mark : ℕ) → (s.requested ≡ 0 → ⊥) → p ≡ ipdu t k
      → n ≡ with_ipdu_state m k (confirmed good p (ipdu_state m k)) → mark ≡ pick good mark_sent mark_send_error → q ≡ mark_objects t c k mark n
      → outcome (done_with 0) q [] ≡ confirm_in t c k good m
  unfolding confirm_in
  confirms p n q mark some same closes which marks =
      rw (is_true e there, marks, which, closes, same, ap (λ (s : IpduState). eqb s.requested 0) (sym row) ∙ ne_eqb _ _ some)

-- ---- indication

module _ (t : List ℕ) (c : Counts) (k : ℕ) (good : Bool) (bytes m n : List ℕ) (found : Bool) (e : found ≡ is_ipdu t c receiving k) (there : found ≡ true) where
  pub indicates_bad : good ≡ false → n ≡ mark_objects t c k mark_receive_error m → outcome (done_with 0) n [] ≡ indication_in t c k good bytes m
  unfolding indication_in
  indicates_bad bad marks = rw (is_true e there, bad, marks)

  pub indicates_good : (a : Answer) → good ≡ true → outcome a n [] ≡ indication_of true t c k bytes m → outcome a n [] ≡ indication_in t c k good bytes m
  unfolding indication_in
  indicates_good a fine does = rw (is_true e there, fine) does

module _ (t : List ℕ) (c : Counts) (k : ℕ) (bytes m : List ℕ) (p : Ipdu) (same : p ≡ ipdu t k) where
  pub wrong_length : (length bytes ≡ p.length.0 → ⊥) → outcome (Err WrongLength) m [] ≡ indication_of true t c k bytes m
  unfolding ipdu_of
  wrong_length other = rw (ne_eqb _ _ (λ e. other (e ∙ sym (ap (λ (p : Ipdu). p.length.0) same))))

  module _ (exact : length bytes ≡ p.length.0) where
    frame_exact : length bytes ≡ (ipdu_record t k).length
    unfolding ipdu_of
    frame_exact = exact ∙ ap (λ (p : Ipdu). p.length.0) same

    module _ (ready : Ready t c m) (low : k < c.ipdus) where
      pub frame_fits : slot_at k + length bytes ≤ length m
      frame_fits = omega (arith, frame_exact, ipdu_short t c ready.right k low, ready.right.shape.ipdus, ready.long)

      pub frame_few : length bytes ≤ 8
      frame_few = omega (arith, frame_exact, ipdu_short t c ready.right k low)

      pub copied_ready : (n : List ℕ) → Bytes bytes → n ≡ replaced (slot_at k) bytes m → Ready t c n
      copied_ready n known copies =
          rw copies
          (ready_bytes t c m ready (slot_at k) bytes known frame_fits
          (inl (omega arith, omega (arith, frame_exact, ipdu_short t c ready.right k low, ready.right.shape.ipdus))))

    pub frame_taken : (n d q : List ℕ) → n ≡ replaced (slot_at k) bytes m → d ≡ deliver_frame t c k n → q ≡ with_ipdu_state d k (timer_set p (ipdu_state d k))
        → outcome (done_with 0) q [] ≡ indication_of true t c k bytes m
    frame_taken n d q copies delivers sets = rw (eq-eqb _ _ frame_exact, sets, delivers, copies, same)
