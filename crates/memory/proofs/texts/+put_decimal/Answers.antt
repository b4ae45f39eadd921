-- `memory::texts::put_decimal`: a number of one or two digits is these; any other is its hundredth's digits, then the last two.
-- Assumes nothing.
use Rattle.std.proofs.Common.{rules}
use Rattle.memory.proofs.Puts.{put_decimal_one, put_decimal_two, put_decimal_more, room_for_one, room_for_two, room_for_front, room_for_last}
use Rattle.memory.proofs.texts.+put_decimal.Goals as goal

pub put_digit-requires-clause-at_in_bounds : goal.put_digit-requires-clause-at_in_bounds
put_digit-requires-clause-at_in_bounds t c = search (rules, room_for_one)

pub returns-then-n-lt10 : goal.returns-then-n-lt10
returns-then-n-lt10 t c = search (rules, put_decimal_one)

pub put_two-requires-clause-at_in_bounds : goal.put_two-requires-clause-at_in_bounds
put_two-requires-clause-at_in_bounds t c = search (rules, room_for_two)

pub returns-then-n-lt100 : goal.returns-then-n-lt100
returns-then-n-lt100 t c = search (rules, put_decimal_two)

pub put_decimal-last-requires : goal.put_decimal-last-requires
put_decimal-last-requires t c = (search rules, search (rules, room_for_front))

pub put_two-requires-2-clause-at_in_bounds : goal.put_two-requires-2-clause-at_in_bounds
put_two-requires-2-clause-at_in_bounds t c = search (rules, room_for_last)

pub returns : goal.returns
returns t c = search (rules, put_decimal_more)
