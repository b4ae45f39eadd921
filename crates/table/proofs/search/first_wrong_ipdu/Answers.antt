-- `table::search::first_wrong_ipdu`: no I-PDU passed is wrong, and the first that is is named.
-- Assumes nothing.
use Rattle.std.proofs.Common.{rules}
use Rattle.table.proofs.Turns.{first_wrong, none_wrong_upto, none_wrong}
use Rattle.table.proofs.search.first_wrong_ipdu.Goals as goal

pub returns-then-not-ipdu_right : goal.returns-then-not-ipdu_right
returns-then-not-ipdu_right c = search (rules, first_wrong)

pub loop-k-preserved : goal.loop-k-preserved
loop-k-preserved c = search (rules, none_wrong_upto)

pub returns : goal.returns
returns c = search (rules, none_wrong)
