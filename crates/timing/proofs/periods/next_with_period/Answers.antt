-- `timing::periods::next_with_period`: no I-PDU passed has a period (`NextPeriod`).
-- Assumes nothing.
use Rattle.std.proofs.Common.{rules}
use Rattle.timing.proofs.PeriodTurn.{none_before, none_more}
use Rattle.timing.proofs.periods.next_with_period.Goals as goal

pub loop-k-init : goal.loop-k-init
loop-k-init c = search (rules, none_before)

pub loop-k-preserved : goal.loop-k-preserved
loop-k-preserved c = search (rules, none_more)
