-- `report::put_answer`: the digit of the answer's number, then what is shown of the call. Requests are shown only where an area was lent.
-- Assumes nothing.
use Rattle.std.proofs.Common.{rules}
use Rattle.report.proofs.Puts.{number_low}
use Rattle.report.proofs.StatusLines.{alone_put, value_line_put, requests_put, lent_long}
use Rattle.report.proofs.put_answer.Goals as goal

pub put_digit-behind-requires : goal.put_digit-behind-requires
put_digit-behind-requires c = record { d_bound = search (rules, number_low); at_in_bounds = search rules }

pub put_requests-requires : goal.put_requests-requires
put_requests-requires c = record { right = search rules; area_size_in_bounds = search (rules, lent_long); at_in_bounds = search rules }

pub returns-in-StatusAlone : goal.returns-in-StatusAlone
returns-in-StatusAlone c = search (rules, alone_put)

pub returns-in-Value : goal.returns-in-Value
returns-in-Value c = search (rules, value_line_put)

pub returns-in-Requests : goal.returns-in-Requests
returns-in-Requests c = search (rules, requests_put)
