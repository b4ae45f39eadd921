-- `ipdu_calls::ticking::tick`: the invariant is what the I-PDUs passed gave with nothing marked; marks last come to the definition.
-- Assumes nothing.
use Rattle.std.proofs.Common.{rules}
use Rattle.calls.proofs.Ticks.{ipdu_few}
use Rattle.ipdu_calls.proofs.RowTicks.{row_word_more, row_word_fits, due_word_more, due_word_fits, row_more, due_more}
use Rattle.ipdu_calls.proofs.MarkedOnce.{ticked_marked, ticked_unmarked}
use Rattle.ipdu_calls.proofs.ticking.tick.Goals as goal

pub tick_ipdu-turn-requires-clause-number_in_bounds : goal.tick_ipdu-turn-requires-clause-number_in_bounds
tick_ipdu-turn-requires-clause-number_in_bounds c = (search rules, search (rules, ipdu_few))

pub overflow_add-word : goal.overflow_add-word
overflow_add-word c = record { fits = search (rules, row_word_fits) }

pub overflow_add-due : goal.overflow_add-due
overflow_add-due c = record { fits = search (rules, due_word_fits) }

pub loop-k-preserved : goal.loop-k-preserved
loop-k-preserved c = (
  search (rules, row_more),
  search (rules, due_more),
  search (rules, row_word_more),
  search (rules, due_word_more),
  search rules,
  search rules,
)

pub returns-then-due-ne0 : goal.returns-then-due-ne0
returns-then-due-ne0 c = search (rules, ticked_marked)

pub returns-else-due-ne0 : goal.returns-else-due-ne0
returns-else-due-ne0 c = search (rules, ticked_unmarked)
