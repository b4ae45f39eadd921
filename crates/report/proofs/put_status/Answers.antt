-- `report::put_status`: the digit of the answer's number, then the line feed.
-- Assumes nothing.
use Rattle.std.proofs.Common.{rules}
use Rattle.report.proofs.Puts.{number_low, put_number_of}
use Rattle.report.proofs.put_status.Goals as goal

pub put_digit-behind-requires : goal.put_digit-behind-requires
put_digit-behind-requires c = record { d_bound = search (rules, number_low); at_in_bounds = search rules }

pub returns : goal.returns
returns c = search (rules, put_number_of)
