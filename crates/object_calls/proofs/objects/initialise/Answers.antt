-- `object_calls::objects::initialise`: an object of the table is decoded, and set where it lies.
-- Assumes nothing.
use Rattle.std.proofs.Common.{rules}
use Rattle.calls.specs.Calls.{initialise_in}
use Rattle.message.proofs.ObjectsInRange.{right_start, decoded_placed}
use Rattle.calls.proofs.Outcomes.{past_all, initialised}
use Rattle.object_calls.proofs.objects.initialise.Goals as goal

pub returns-then-c-number : goal.returns-then-c-number
unfolding initialise_in
returns-then-c-number c = search (rules, past_all)

pub decode_object-requires-clause-number_bound : goal.decode_object-requires-clause-number_bound
unfolding initialise_in
decode_object-requires-clause-number_bound c = search (rules, right_start)

pub initialise-requires-clause-placed : goal.initialise-requires-clause-placed
unfolding initialise_in
initialise-requires-clause-placed c = search (rules, decoded_placed)

pub returns : goal.returns
unfolding initialise_in
returns c = search (rules, initialised)
