-- `object_calls::objects::marks`: the marks are those of the row.
-- Assumes nothing.
use Rattle.std.proofs.Common.{rules}
use Rattle.calls.specs.Calls.{marks_in}
use Rattle.calls.proofs.Outcomes.{past_all, marks_given}
use Rattle.object_calls.proofs.objects.marks.Goals as goal

pub returns-then-c-number : goal.returns-then-c-number
unfolding marks_in
returns-then-c-number c = search (rules, past_all)

pub returns : goal.returns
unfolding marks_in
returns c = search (rules, marks_given)
