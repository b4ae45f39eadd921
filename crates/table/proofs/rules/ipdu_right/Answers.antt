-- `table::rules::ipdu_right`: length and last bytes, then the rules of the direction.
-- Assumes nothing.
use Rattle.std.proofs.Common.{rules}
use Rattle.table.proofs.IpduTests.{no_length, long, tail_some, no_direction}
use Rattle.table.proofs.rules.ipdu_right.Goals as goal

pub returns-then-length-lt1 : goal.returns-then-length-lt1
returns-then-length-lt1 c = search (rules, no_length)

pub returns-then-length-gt8 : goal.returns-then-length-gt8
returns-then-length-gt8 c = search (rules, long)

pub returns-then-read16-ne0 : goal.returns-then-read16-ne0
returns-then-read16-ne0 c = search (rules, tail_some)

pub returns-then-direction-ne-RECEIVING : goal.returns-then-direction-ne-RECEIVING
returns-then-direction-ne-RECEIVING c = search (rules, no_direction)
