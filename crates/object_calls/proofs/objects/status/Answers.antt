-- `object_calls::objects::status`: the object found has a queue, or there is no such object.
-- Assumes nothing.
use Rattle.std.proofs.Common.{rules}
use Rattle.calls.proofs.Outcomes.{status_none, status_unqueued, status_queued}
use Rattle.object_calls.proofs.objects.status.Goals as goal

pub returns-then-not-is_object : goal.returns-then-not-is_object
returns-then-not-is_object c = search (rules, status_none)

pub returns-then-r-eq0 : goal.returns-then-r-eq0
returns-then-r-eq0 c = search (rules, status_unqueued)

pub returns : goal.returns
returns c = search (rules, status_queued)
