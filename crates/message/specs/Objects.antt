-- Document 01, "Filters" and "Calls": what a filtering, a delivery, a receive and an initialise leave of one message object.
-- Assumes nothing.
use Rattle.std.specs.Prelude.{Bool, false, ◌&&◌, ◌≡◌, List, ℕ, ◌+◌, ◌≤◌, ◌<◌, ltb, eqb, length}
use Rattle.std.specs.Int.Bits.{bit_or}
use Rattle.memory.specs.Bytes.{bytes_of, part, replaced}
use Rattle.memory.specs.Search.{pick}
use Rattle.bits.specs.Bits.{packed, unpacked, extended}
use Rattle.bits.specs.Slots.{position, InSlot}
use Rattle.filter.specs.Filters.{passes}
use Rattle.table.specs.declared.Counts.{Counts}
use Rattle.config.specs.declared.Direction.{Direction}
use Rattle.config.specs.declared.Direction.TheVariants.{Send, Receive}
use Rattle.config.specs.declared.Object.{Object}
use Rattle.table.specs.Records.{most_ipdus, absent, object_record}
use Rattle.config.specs.Decode.{object_of}
use Rattle.state.specs.declared.ObjectState.{ObjectState}
use Rattle.state.specs.Layout.{memory_size, slot_at, object_state, with_object_state}
use Rattle.state.specs.Updates.{counted, with_old, with_value, with_marks, with_queue}
use Rattle.queue.specs.Queues.{place_at}

-- message object i of a table
abbrev pub object : List ℕ → Counts → ℕ → Object
object t c i = object_of (object_record t c.ipdus i)

-- an object whose bits lie in a slot
pub record Placed (o : Object) (m : List ℕ) : Type 0 where
  pub long : memory_size ≤ length m
  pub slot : InSlot o.at o.size.0
  pub ipdu : eqb o.ipdu.0 absent ≡ false → o.ipdu.0 < most_ipdus

-- ---- marks: arrived 1, sent 2, receive error 4, send error 8, added

abbrev pub mark_arrived : ℕ
mark_arrived = 1

abbrev pub mark_sent : ℕ
mark_sent = 2

abbrev pub mark_receive_error : ℕ
mark_receive_error = 4

abbrev pub mark_send_error : ℕ
mark_send_error = 8

unfoldable pub marked : ℕ → ObjectState → ObjectState
marked mark s = with_marks (bit_or s.marks mark) s

-- ---- filters: old becomes a value that passed; every filtering moves the count on, by the filter's rule

abbrev pub passes_filter : Object → ℕ → ObjectState → Bool
passes_filter o v s = passes o.signed o.filter v s.old s.occurrence

unfoldable pub after_filter : Bool → Object → ℕ → ObjectState → ObjectState
after_filter passed o v s = counted o.filter (pick passed (with_old v s) s)

-- ---- delivery: what the filter passes is stored, becomes old, and is marked as arrived. Where the queue has no room it is lost: that is
-- noted and it becomes old, with no mark.

abbrev pub stored : ℕ → ℕ → ObjectState → ObjectState
stored depth v s =
    pick (eqb depth 0) (marked mark_arrived (with_value v s))
    (pick (ltb s.count depth) (marked mark_arrived (with_queue s.overflow s.head (s.count + 1) s))
    (with_queue 1 s.head s.count s))

unfoldable pub delivered : Bool → Object → ℕ → ObjectState → ObjectState
delivered passed o v s = pick passed (stored o.depth v (after_filter passed o v s)) (after_filter passed o v s)

-- the value enters the queue
abbrev pub enters : Bool → ℕ → ObjectState → Bool
enters passed depth s = passed && ltb s.count depth

abbrev pub delivery : Bool → Object → ℕ → ℕ → ObjectState → List ℕ → List ℕ
delivery passed o i v s m =
    with_object_state
    (pick (enters passed o.depth s) (replaced (place_at o.depth s s.count) (bytes_of 4 v) m) m)
    i (delivered passed o v s)

unfoldable pub deliver : Object → ℕ → ℕ → List ℕ → List ℕ
deliver o i v m = delivery (passes_filter o v (object_state m i)) o i v (object_state m i) m

-- ---- the bits of an object in its I-PDU

-- its start bit
abbrev pub start_bit : Object → ℕ
start_bit o = position o.order o.at

-- a value packed into the I-PDU; with no I-PDU packing does nothing
unfoldable pub pack : Object → ℕ → List ℕ → List ℕ
pack o v m =
    pick (eqb o.ipdu.0 absent) m
    (replaced (slot_at o.ipdu.0) (packed o.order (start_bit o) o.size.0 v (part (slot_at o.ipdu.0) 8 m)) m)

-- the value unpacked from the I-PDU; a signed one has its top bit copied upwards (W-207)
unfoldable pub unpack : Object → List ℕ → ℕ
unpack o m = extended o.signed o.size.0 (unpacked o.order (start_bit o) o.size.0 (part (slot_at o.ipdu.0) 8 m))

-- ---- initialise: a send object's value is packed; a receive object has it as its value, an empty queue and no overflow. In both it
-- becomes old, and nothing is counted.

abbrev pub initialise_as : Direction → Object → ℕ → ℕ → List ℕ → List ℕ
initialise_as Send o i v m = pack o v (with_object_state m i (with_old v (object_state m i)))
initialise_as Receive o i v m = with_object_state m i (with_old v (with_value v (with_queue 0 0 0 (object_state m i))))

unfoldable pub initialise : Object → ℕ → ℕ → List ℕ → List ℕ
initialise o i v m = initialise_as o.direction o i v m
