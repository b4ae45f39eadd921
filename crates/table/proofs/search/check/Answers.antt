-- `table::search::check`: the header, then the lowest wrong I-PDU, then the lowest wrong object, as the definition orders them.
-- Assumes nothing.
use Rattle.std.proofs.Common.{rules}
use Rattle.memory.proofs.Tests.{tested_true, tested_false}
use Rattle.table.specs.Check.{check}
use Rattle.table.proofs.Verdicts.{header_long, counts_shape, none_found, names_ipdu, names_object, accepts}
use Rattle.table.proofs.search.check.Goals as goal

pub returns-then-not-header_right : goal.returns-then-not-header_right
unfolding check
returns-then-not-header_right c = rw (tested_false c.header_right.ensures c.if-not-header_right.true)

pub header_counts-c-requires : goal.header_counts-c-requires
header_counts-c-requires c = search (rules, header_long, tested_true)

pub first_wrong_ipdu-requires : goal.first_wrong_ipdu-requires
first_wrong_ipdu-requires c = search (rules, counts_shape, tested_true)

pub returns-in-Some : goal.returns-in-Some
returns-in-Some c = search (rules, names_ipdu, tested_true)

pub first_wrong_object-requires : goal.first_wrong_object-requires
first_wrong_object-requires c = record { shape = search (rules, counts_shape, tested_true); ipdus_right = search (rules, none_found) }

pub returns-in-Some-first_wrong_object : goal.returns-in-Some-first_wrong_object
returns-in-Some-first_wrong_object c = search (rules, names_object, tested_true)

pub returns : goal.returns
returns c = search (rules, accepts, tested_true)
