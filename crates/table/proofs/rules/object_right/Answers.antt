-- `table::rules::object_right`: last bytes and filter, then the rules with or without an I-PDU.
-- Assumes nothing.
use Rattle.std.proofs.Common.{rules}
use Rattle.table.proofs.ObjectTests.{tail_some, filter_wrong, filtered}
use Rattle.table.proofs.rules.object_right.Goals as goal

pub returns-then-read64-ne0 : goal.returns-then-read64-ne0
returns-then-read64-ne0 c = search (rules, tail_some)

pub returns-then-not-filter_right : goal.returns-then-not-filter_right
returns-then-not-filter_right c = search (rules, filter_wrong)

pub within_ipdu-requires : goal.within_ipdu-requires
within_ipdu-requires c = record { shape = search rules; ipdus_right = search rules; a_in_bounds = (search rules, search (rules, filtered), search rules, search rules) }

pub without_ipdu-requires : goal.without_ipdu-requires
without_ipdu-requires c = record { shape = search rules; a_in_bounds = (search rules, search (rules, filtered), search rules) }
