-- `object_calls::sending::request`: a wanted request has an I-PDU, which is offered.
-- Assumes nothing.
use Rattle.std.proofs.Common.{rules}
use Rattle.calls.specs.Calls.{request}
use Rattle.memory.proofs.Tests.{not_found}
use Rattle.calls.proofs.Outcomes.{wanted_number, wanted_record, wanted_few, requested}
use Rattle.object_calls.proofs.sending.request.Goals as goal

pub returns-then-not-wants : goal.returns-then-not-wants
unfolding request
returns-then-not-wants c = search (rules, not_found)

pub decode_ipdu-p-requires : goal.decode_ipdu-p-requires
unfolding request
decode_ipdu-p-requires c = search (rules, wanted_record)

pub try_request-word-requires-clause-number_lt_most_ipdus : goal.try_request-word-requires-clause-number_lt_most_ipdus
unfolding request
try_request-word-requires-clause-number_lt_most_ipdus c = search (rules, wanted_number)

pub try_request-word-requires-clause-memory_size_in_bounds : goal.try_request-word-requires-clause-memory_size_in_bounds
unfolding request
try_request-word-requires-clause-memory_size_in_bounds c = (search rules, search rules, search (rules, wanted_few))

pub returns : goal.returns
unfolding request
returns c = search (rules, requested)
