-- `report::requests::put_requests`: the requests of the I-PDUs passed are put, and `rest` is what is left of the word (`turn_more`).
-- Assumes nothing.
use Rattle.std.proofs.Common.{rules}
use Rattle.report.proofs.RequestTexts.{texts_none, turn_fits, turn_less, turn_next, turn_there, turn_room, turn_more, rest_more, end_room, turns_done}
use Rattle.report.proofs.requests.put_requests.Goals as goal

pub loop-k-init : goal.loop-k-init
loop-k-init c = (search rules, search rules, search (rules, texts_none), search rules)

pub put_if_named-end-requires : goal.put_if_named-end-requires
put_if_named-end-requires c = record { in_table = search (rules, turn_there); area_size_in_bounds = search rules; at_in_bounds = search (rules, turn_room) }

pub overflow_add-k : goal.overflow_add-k
overflow_add-k c = search (rules, turn_fits)

pub loop-k-smaller : goal.loop-k-smaller
loop-k-smaller c = search (rules, turn_less)

pub loop-k-preserved : goal.loop-k-preserved
loop-k-preserved c = (search (rules, turn_next), search (rules, rest_more), search (rules, turn_more), search rules)

pub put_line_feed-requires : goal.put_line_feed-requires
put_line_feed-requires c = search (rules, end_room)

pub returns : goal.returns
returns c = search (rules, turns_done)
