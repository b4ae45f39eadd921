-- `filter::filter_right`: its tests by number are those of the definition (`by_number`).
-- Assumes nothing.
use Rattle.std.proofs.Common.{ne_eqb}
use Rattle.filter.proofs.Laws.{by_number}
use Rattle.filter.proofs.filter_right.Goals as goal

pub returns-then-number : goal.returns-then-number
returns-then-number c = rw (by_number, c.if-number.true)

pub returns-then-number-2 : goal.returns-then-number-2
returns-then-number-2 c = rw (by_number, c.if-number.false, c.if-number-2.true)

pub returns-then-number-eq14 : goal.returns-then-number-eq14
returns-then-number-eq14 c = rw (by_number, c.if-number-eq14.true)

pub returns : goal.returns
returns c = rw (by_number, c.if-number.false, c.if-number-2.false, ne_eqb _ _ c.if-number-eq14.false)
