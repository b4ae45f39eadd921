-- `object_calls::objects::clear_marks`: the row is written back with no marks.
-- Assumes nothing.
use Rattle.std.proofs.Common.{rules}
use Rattle.calls.specs.Calls.{clear_marks_in}
use Rattle.calls.proofs.Outcomes.{past_all, marks_cleared_lem}
use Rattle.object_calls.proofs.objects.clear_marks.Goals as goal

pub returns-then-c-number : goal.returns-then-c-number
unfolding clear_marks_in
returns-then-c-number c = search (rules, past_all)

pub returns : goal.returns
unfolding clear_marks_in
returns c = search (rules, marks_cleared_lem)
