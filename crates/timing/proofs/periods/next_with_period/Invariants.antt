-- `timing::periods::next_with_period`: no I-PDU passed has a period (`NextPeriod`).
-- Assumes nothing.
use Rattle.timing.specs.Inner.{NextPeriod}
use Rattle.timing.proofs.periods.next_with_period.Given as goal

abbrev pub invariant-loop-k : goal.invariant-loop-k
invariant-loop-k l = NextPeriod l.t l.from l.c.ipdus l.k
