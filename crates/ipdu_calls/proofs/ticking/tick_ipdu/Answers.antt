-- `ipdu_calls::ticking::tick_ipdu`: the direction in the table tells which tick it is.
-- Assumes nothing.
use Rattle.std.proofs.Common.{rules}
use Rattle.ipdu_calls.proofs.RowTicks.{row_sends, row_receives, due_sends, due_receives}
use Rattle.ipdu_calls.proofs.ticking.tick_ipdu.Goals as goal

pub returns-in-Send-clause-row : goal.returns-in-Send-clause-row
returns-in-Send-clause-row c = search (rules, row_sends)

pub returns-in-Send-clause-due : goal.returns-in-Send-clause-due
returns-in-Send-clause-due c = search (rules, due_sends)

pub returns-in-Receive-clause-row : goal.returns-in-Receive-clause-row
returns-in-Receive-clause-row c = search (rules, row_receives)

pub returns-in-Receive-clause-due : goal.returns-in-Receive-clause-due
returns-in-Receive-clause-due c = search (rules, due_receives)
