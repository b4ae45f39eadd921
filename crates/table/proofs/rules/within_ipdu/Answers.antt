-- `table::rules::within_ipdu`: direction, sender, place, then transfer property and depth by the kind.
-- Assumes nothing.
use Rattle.std.proofs.Common.{rules}
use Rattle.table.proofs.IpduReads.{direction_read, length_read}
use Rattle.table.proofs.ObjectTests.{short, kind_least, kind_most, other_direction, two_ways, no_room, within_transfer}
use Rattle.table.proofs.rules.within_ipdu.Goals as goal

pub returns-then-read8-kind : goal.returns-then-read8-kind
returns-then-read8-kind c = search (rules, other_direction, direction_read)

pub returns-then-read8-ne-NONE : goal.returns-then-read8-ne-NONE
returns-then-read8-ne-NONE c = search (rules, two_ways)

pub place_right-requires : goal.place_right-requires
place_right-requires c = (search rules, search (rules, short, length_read))

pub returns-then-not-place_right : goal.returns-then-not-place_right
returns-then-not-place_right c = search (rules, no_room, length_read)

pub transfer_right-requires : goal.transfer_right-requires
transfer_right-requires c = (search rules, search (rules, kind_least, direction_read), search (rules, kind_most, direction_read))

pub returns : goal.returns
returns c = search (rules, within_transfer, direction_read, length_read)
