-- `delivery::deliver_to`: the object is decoded from its record, and its numbers are in their ranges.
-- Assumes nothing.
use Rattle.std.proofs.Common.{rules}
use Rattle.message.proofs.ObjectsInRange.{right_start, decoded_held, decoded_count}
use Rattle.delivery.proofs.deliver_to.Goals as goal

pub decode_object-requires-clause-number_bound : goal.decode_object-requires-clause-number_bound
decode_object-requires-clause-number_bound c = search (rules, right_start)

pub deliver-requires-clause-held : goal.deliver-requires-clause-held
deliver-requires-clause-held c = search (rules, decoded_held)

pub deliver-requires-clause-count_fits : goal.deliver-requires-clause-count_fits
deliver-requires-clause-count_fits c = search (rules, decoded_count)
