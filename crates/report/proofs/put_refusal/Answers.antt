-- `report::put_refusal`: the digit 9, then the number, then the line feed. A number has at most 20 digits.
-- Assumes nothing.
use Rattle.std.proofs.Common.{rules}
use Rattle.report.proofs.Puts.{refusal_room, refusal_end, put_refusal}
use Rattle.report.proofs.put_refusal.Goals as goal

pub put_number-end-requires : goal.put_number-end-requires
put_number-end-requires c = search (rules, refusal_room)

pub put_line_feed-requires : goal.put_line_feed-requires
put_line_feed-requires c = search (rules, refusal_end)

pub returns : goal.returns
returns c = search (rules, put_refusal)
