-- `table::rules::place_right`: size, then the room under the order.
-- Assumes nothing.
use Rattle.std.proofs.Common.{rules}
use Rattle.table.proofs.FieldTests.{no_size, size_past, no_order, little_room, outside, big_room, position_fits}
use Rattle.table.proofs.rules.place_right.Goals as goal

pub returns-then-bits-lt1 : goal.returns-then-bits-lt1
returns-then-bits-lt1 c = search (rules, no_size)

pub returns-then-bits-gt32 : goal.returns-then-bits-gt32
returns-then-bits-gt32 c = search (rules, size_past)

pub returns-then-order-gt3 : goal.returns-then-order-gt3
returns-then-order-gt3 c = search (rules, no_order)

pub returns-then-order-eq0 : goal.returns-then-order-eq0
returns-then-order-eq0 c = search (rules, little_room)

pub returns-then-end-start : goal.returns-then-end-start
returns-then-end-start c = search (rules, outside)

pub overflow_add-result-2 : goal.overflow_add-result-2
overflow_add-result-2 c = record { fits = position_fits c.position.ensures c.if-end-start.false c.requires.1 c.if-bits-gt32.false }

pub returns : goal.returns
returns c = search (rules, big_room)
