-- `object_calls::sending::send`: the object found is decoded, delivered inside, filtered, and packed and requested where it passed.
-- Assumes nothing.
use Rattle.std.proofs.Common.{rules}
use Rattle.calls.specs.Calls.{send_in}
use Rattle.memory.proofs.Tests.{not_found}
use Rattle.calls.proofs.Outcomes.{found_start, found_count, found_placed_after, found_has_ipdu, send_dropped, send_passed}
use Rattle.object_calls.proofs.sending.send.Goals as goal

pub returns-then-not-is_object : goal.returns-then-not-is_object
unfolding send_in
returns-then-not-is_object c = search (rules, not_found)

pub decode_object-o-requires-clause-number_bound : goal.decode_object-o-requires-clause-number_bound
unfolding send_in
decode_object-o-requires-clause-number_bound c = search (rules, found_start)

pub filter_sent-requires-clause-count_fits : goal.filter_sent-requires-clause-count_fits
unfolding send_in
filter_sent-requires-clause-count_fits c = search (rules, found_count)

pub returns-then-not-filter_sent : goal.returns-then-not-filter_sent
unfolding send_in
returns-then-not-filter_sent c = search (rules, send_dropped)

pub pack-requires : goal.pack-requires
unfolding send_in
pack-requires c = search (rules, found_placed_after)

pub request-requires-clause-has_ipdu : goal.request-requires-clause-has_ipdu
unfolding send_in
request-requires-clause-has_ipdu c = found_has_ipdu _ _ _ _ _ c.is_object.ensures c.if-not-is_object.false _ c.requires.ready _ c.decode_object-o.ensures

pub returns : goal.returns
unfolding send_in
returns c =
    send_passed _ _ _ _ _ _ _ _ _ _ _ c.is_object.ensures c.if-not-is_object.false c.decode_object-o.ensures
    c.deliver_inside.ensures c.filter_sent.ensures.passed c.filter_sent.ensures.row _ _
    c.if-not-filter_sent.false c.pack.ensures c.request.ensures
