-- `object_calls::objects::receive`: the object found is read where it has no queue, else the oldest of its queue is taken.
-- Assumes nothing.
use Rattle.std.proofs.Common.{rules}
use Rattle.calls.specs.Calls.{receive_in}
use Rattle.memory.proofs.Tests.{not_found}
use Rattle.calls.proofs.Outcomes.{found_held, received, received_queued}
use Rattle.object_calls.proofs.objects.receive.Goals as goal

pub returns-then-not-is_object : goal.returns-then-not-is_object
unfolding receive_in
returns-then-not-is_object c = search (rules, not_found)

pub returns-then-r-eq0 : goal.returns-then-r-eq0
unfolding receive_in
returns-then-r-eq0 c = search (rules, received)

pub receive_queued-requires : goal.receive_queued-requires
unfolding receive_in
receive_queued-requires c = search (rules, found_held)

pub returns : goal.returns
unfolding receive_in
returns c = search (rules, received_queued)
