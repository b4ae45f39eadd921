-- Document 01, "Calls", in its order: what each call does over an accepted table and a working memory in range.
-- Assumes nothing.
use Rattle.std.specs.Prelude.{Bool, true, false, not, ◌&&◌, List, [], ◌≡◌, ℕ, ◌+◌, ◌*◌, ◌^◌, ◌≤◌, ◌<◌, ltb, eqb, length, Err}
use Rattle.memory.specs.Bytes.{replaced}
use Rattle.memory.specs.Search.{pick}
use Rattle.table.specs.declared.Counts.{Counts}
use Rattle.config.specs.declared.Ipdu.{Ipdu}
use Rattle.config.specs.declared.Mode.{Mode}
use Rattle.config.specs.declared.Mode.TheVariants.{Direct, Periodic, Mixed}
use Rattle.config.specs.declared.Object.{Object}
use Rattle.config.specs.declared.Transfer.{Transfer}
use Rattle.config.specs.declared.Transfer.TheVariants.{Triggered, Pending}
use Rattle.table.specs.Records.{most_ipdus, receiving, sending, absent, ipdu_record, object_record}
use Rattle.state.specs.declared.IpduState.{IpduState}
use Rattle.state.specs.declared.ObjectState.{ObjectState}
use Rattle.state.specs.Layout.{with_running, slot_at, ipdu_state, with_ipdu_state, object_state, with_object_state}
use Rattle.state.specs.Updates.{with_marks, with_wanted}
use Rattle.message.specs.Objects.{object, mark_sent, mark_receive_error, mark_send_error, passes_filter, after_filter, pack, initialise}
use Rattle.queue.specs.Queues.{oldest, dequeue}
use Rattle.delivery.specs.Delivery.{deliver_inside, deliver_frame, mark_objects}
use Rattle.transmission.specs.Requests.{ipdu, is_due, after_request, copied_to_area, confirmed, timer_set}
use Rattle.timing.specs.Periods.{set_periods}
use Rattle.calls.specs.Answers.{Answer}
use Rattle.calls.specs.Answers.{done_with, limit_with}
use Rattle.calls.specs.declared.Refusal.TheVariants.{WrongId, WrongLength, NoMessage, NotRequested}
use Rattle.calls.specs.Answers.{Outcome, outcome}

-- the I-PDU of an object, where it has one, is in the table
pub record HasIpdu (t : List ℕ) (o : Object) : Type 0 where
  pub number : eqb o.ipdu.0 absent ≡ false → o.ipdu.0 < most_ipdus
  pub inside : eqb o.ipdu.0 absent ≡ false → 16 + 16 * o.ipdu.0 + 16 ≤ length t
  pub few : eqb o.ipdu.0 absent ≡ false → (ipdu t o.ipdu.0).length.0 ≤ 8

-- ---- numbers of objects and I-PDUs: 1 where too large or of the wrong kind

abbrev pub is_object : List ℕ → Counts → ℕ → ℕ → Bool
is_object t c kind i = ltb i c.objects && eqb (object_record t c.ipdus i).kind kind

abbrev pub is_ipdu : List ℕ → Counts → ℕ → ℕ → Bool
is_ipdu t c direction k = ltb k c.ipdus && eqb (ipdu_record t k).direction direction

-- ---- stop: from now on the layer does not run; all else stays

unfoldable pub stop_in : List ℕ → Outcome
stop_in m = outcome (done_with 0) (with_running m 0) []

-- ---- send: first the receivers inside get the value, then the filter judges it; one that passes is packed. A triggered object of a
-- direct or mixed I-PDU then wants a request, made at once where it may go. The word has a bit for the I-PDU requested.

abbrev pub is_triggered : Transfer → Bool
is_triggered Triggered = true
is_triggered Pending = false

abbrev pub is_periodic : Mode → Bool
is_periodic Direct = false
is_periodic Periodic = true
is_periodic Mixed = false

unfoldable pub wants : List ℕ → Object → Bool
wants t o = not (eqb o.ipdu.0 absent) && is_triggered o.transfer && not (is_periodic (ipdu t o.ipdu.0).mode)

abbrev pub try_request : Ipdu → ℕ → IpduState → List ℕ → List ℕ → Outcome
try_request p k s area m =
    outcome (done_with (pick (is_due p s) (2 ^ k) 0)) (with_ipdu_state m k (after_request p s)) (pick (is_due p s) (copied_to_area p.length.0 k m area) area)

unfoldable pub request : List ℕ → Object → List ℕ → List ℕ → Outcome
request t o area m =
    pick (wants t o) (try_request (ipdu t o.ipdu.0) o.ipdu.0 (with_wanted 1 (ipdu_state m o.ipdu.0)) area m)
    (outcome (done_with 0) m area)

abbrev pub if_passed : Bool → List ℕ → Object → ℕ → List ℕ → List ℕ → Outcome
if_passed passed t o v area m = pick passed (request t o area (pack o v m)) (outcome (done_with 0) m area)

abbrev pub filter_send : List ℕ → Object → ℕ → ℕ → List ℕ → List ℕ → Outcome
filter_send t o i v area m =
    if_passed (passes_filter o v (object_state m i)) t o v area
    (with_object_state m i (after_filter (passes_filter o v (object_state m i)) o v (object_state m i)))

unfoldable pub send_of : List ℕ → Counts → ℕ → ℕ → List ℕ → List ℕ → Outcome
send_of t c i v area m = filter_send t (object t c i) i v area (deliver_inside t c i v m)

unfoldable pub send_in : List ℕ → Counts → ℕ → ℕ → List ℕ → List ℕ → Outcome
send_in t c i v area m = pick (is_object t c sending i) (send_of t c i v area m) (outcome (Err WrongId) m area)

-- ---- initialise

unfoldable pub initialise_in : List ℕ → Counts → ℕ → ℕ → List ℕ → Outcome
initialise_in t c i v m = pick (ltb i c.objects) (outcome (done_with 0) (initialise (object t c i) i v m) []) (outcome (Err WrongId) m [])

-- ---- receive: the value of an unqueued object; of a queue the oldest, which is taken out. 4 where the queue is empty; 3 after an
-- overflow, with the oldest

abbrev pub limited : ObjectState → ℕ → Answer
limited s v = pick (eqb s.overflow 0) (done_with v) (limit_with v)

abbrev pub receive_queued : ℕ → ℕ → List ℕ → Outcome
receive_queued depth i m =
    pick (eqb (object_state m i).count 0) (outcome (Err NoMessage) m [])
    (outcome (limited (object_state m i) (oldest depth i m)) (dequeue depth i m) [])

abbrev pub receive_of : ℕ → ℕ → List ℕ → Outcome
receive_of depth i m = pick (eqb depth 0) (outcome (done_with (object_state m i).value) m []) (receive_queued depth i m)

unfoldable pub receive_in : List ℕ → Counts → ℕ → List ℕ → Outcome
receive_in t c i m = pick (is_object t c receiving i) (receive_of (object_record t c.ipdus i).depth i m) (outcome (Err WrongId) m [])

-- ---- status, of queued objects only, changes nothing

abbrev pub status_of : ObjectState → Answer
status_of s = pick (eqb s.count 0) (Err NoMessage) (limited s 0)

unfoldable pub status_in : List ℕ → Counts → ℕ → List ℕ → Outcome
status_in t c i m =
    pick (is_object t c receiving i && not (eqb (object_record t c.ipdus i).depth 0)) (outcome (status_of (object_state m i)) m [])
    (outcome (Err WrongId) m [])

-- ---- marks, clear marks: all four of an object are read, or cleared

unfoldable pub marks_in : Counts → ℕ → List ℕ → Outcome
marks_in c i m = pick (ltb i c.objects) (outcome (done_with (object_state m i).marks) m []) (outcome (Err WrongId) m [])

unfoldable pub clear_marks_in : Counts → ℕ → List ℕ → Outcome
clear_marks_in c i m =
    pick (ltb i c.objects) (outcome (done_with 0) (with_object_state m i (with_marks 0 (object_state m i))) []) (outcome (Err WrongId) m [])

-- ---- start periodic and stop periodic

unfoldable pub periodic_in : Bool → List ℕ → Counts → List ℕ → Outcome
periodic_in on t c m = outcome (done_with 0) (set_periods on t c m) []

-- ---- indication: of a good one the bytes become the I-PDU's, each of its objects is delivered its bits, by rising number, and the timer
-- becomes R. A bad one sets receive error for all its objects, whatever its bytes

abbrev pub timed : List ℕ → ℕ → List ℕ → List ℕ
timed t k m = with_ipdu_state m k (timer_set (ipdu t k) (ipdu_state m k))

abbrev pub indication_of : Bool → List ℕ → Counts → ℕ → List ℕ → List ℕ → Outcome
indication_of true t c k bytes m =
    pick (eqb (length bytes) (ipdu_record t k).length) (outcome (done_with 0) (timed t k (deliver_frame t c k (replaced (slot_at k) bytes m))) [])
    (outcome (Err WrongLength) m [])
indication_of false t c k bytes m = outcome (done_with 0) (mark_objects t c k mark_receive_error m) []

unfoldable pub indication_in : List ℕ → Counts → ℕ → Bool → List ℕ → List ℕ → Outcome
indication_in t c k good bytes m = pick (is_ipdu t c receiving k) (indication_of good t c k bytes m) (outcome (Err WrongId) m [])

-- ---- confirm closes the open request, and marks sent or send error on its objects

abbrev pub confirm_of : Bool → List ℕ → Counts → ℕ → List ℕ → List ℕ
confirm_of good t c k m =
    mark_objects t c k (pick good mark_sent mark_send_error) (with_ipdu_state m k (confirmed good (ipdu t k) (ipdu_state m k)))

unfoldable pub confirm_in : List ℕ → Counts → ℕ → Bool → List ℕ → Outcome
confirm_in t c k good m =
    pick (is_ipdu t c sending k)
    (pick (eqb (ipdu_state m k).requested 0) (outcome (Err NotRequested) m []) (outcome (done_with 0) (confirm_of good t c k m) []))
    (outcome (Err WrongId) m [])
