-- `report::requests::put_if_named`: both cases of the lowest bit.
-- Assumes nothing.
use Rattle.std.proofs.Common.{rules}
use Rattle.report.proofs.RequestTexts.{named_put, unnamed_put}
use Rattle.report.proofs.requests.put_if_named.Goals as goal

pub returns-then-rest-eq1 : goal.returns-then-rest-eq1
returns-then-rest-eq1 c = search (rules, named_put)

pub returns : goal.returns
returns c = search (rules, unnamed_put)
