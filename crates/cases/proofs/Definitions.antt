-- What a proved case is computed from: every definition that a filter, the check or a call goes through. To unfold one of the names
-- below is to unfold all that its line names. Assumes nothing.
use Rattle.memory.specs.Bytes.{value, bytes_of, part, number_at, replaced}
use Rattle.memory.specs.Integers.{integer, at_most, less_than}
use Rattle.bits.specs.Bits.{bit, frame_bit, place, room, number, frame_of, written, packed, unpacked, owns, extended}
use Rattle.bits.specs.Slots.{position}
use Rattle.filter.specs.Filters.{passes, greatest_count, next_count, filter_of, filter_right}
use Rattle.table.specs.Records.{counts, ipdu_record, object_record}
use Rattle.table.specs.Rules.{offsets_right, header_right, ipdu_right, references, object_right}
use Rattle.table.specs.Check.{check}
use Rattle.config.specs.Decode.{ipdu_of, object_of}
use Rattle.state.specs.Layout.{running_at, with_running, ipdu_state, with_ipdu_state, object_state, with_object_state}
use Rattle.state.specs.Ranges.{ipdu_in_range, object_in_range, in_range}
use Rattle.message.specs.Objects.{marked, after_filter, delivered, deliver, pack, unpack, initialise}
use Rattle.queue.specs.Queues.{oldest, dequeue}
use Rattle.delivery.specs.Delivery.{deliver_inside, deliver_frame, mark_objects}
use Rattle.transmission.specs.Requests.{is_due, request_made, after_request, copied_to_area, confirmed, timer_set}
use Rattle.timing.specs.Periods.{period_set, set_periods}
use Rattle.timing.specs.Ticks.{tick_delay, deadline_expires, tick_deadline, period_elapses, tick_period, timer_expires, tick_timer}
use Rattle.layer.specs.Admission.{admission, start_admission}
use Rattle.calls.specs.Calls.{stop_in, wants, request, send_of, send_in, initialise_in, receive_in, status_in, marks_in, clear_marks_in, periodic_in, indication_in, confirm_in}
use Rattle.calls.specs.Tick.{tick_ipdu, tick_in}
use Rattle.startup.specs.Start.{blank, prepared, started}
use Rattle.layer.specs.Step.{step}

unfoldable pub bit_definitions : Unit {0}
unfolding value bytes_of part number_at replaced bit frame_bit place room number frame_of written packed unpacked owns extended position
bit_definitions = tt

unfoldable pub check_definitions : Unit {0}
unfolding integer at_most less_than passes greatest_count next_count filter_of filter_right counts
    ipdu_record object_record offsets_right header_right ipdu_right references object_right check ipdu_of object_of
check_definitions = tt

unfoldable pub state_definitions : Unit {0}
unfolding running_at with_running ipdu_state with_ipdu_state object_state with_object_state ipdu_in_range object_in_range in_range
state_definitions = tt

unfoldable pub message_definitions : Unit {0}
unfolding marked after_filter delivered deliver oldest dequeue pack unpack initialise deliver_inside deliver_frame mark_objects
message_definitions = tt

unfoldable pub request_definitions : Unit {0}
unfolding is_due request_made after_request copied_to_area confirmed period_set set_periods timer_set tick_delay deadline_expires tick_deadline period_elapses tick_period timer_expires tick_timer
request_definitions = tt

unfoldable pub call_definitions : Unit {0}
unfolding admission start_admission stop_in wants request send_of send_in initialise_in receive_in status_in marks_in clear_marks_in periodic_in indication_in confirm_in tick_ipdu tick_in
call_definitions = tt

unfoldable pub start_definitions : Unit {0}
unfolding blank prepared started step
start_definitions = tt

unfoldable pub definitions : Unit {0}
unfolding bit_definitions check_definitions state_definitions message_definitions request_definitions call_definitions start_definitions
definitions = tt

-- a pair: what holds of a list's first case, and of the others
infixr 4 ◌&◌
abbrev pub ◌&◌ : {A B : Type 0} → A → B → A × B
a & b = (a, b)
