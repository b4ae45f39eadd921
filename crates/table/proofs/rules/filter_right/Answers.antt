-- `table::rules::filter_right`: the number with the bytes above it, then the constants.
-- Assumes nothing.
use Rattle.std.proofs.Common.{rules}
use Rattle.table.proofs.FieldTests.{no_constant, constants_decide}
use Rattle.table.proofs.ObjectReads.{filter_read, constants_read}
use Rattle.table.proofs.rules.filter_right.Goals as goal

pub returns-then-read64-eq0 : goal.returns-then-read64-eq0
returns-then-read64-eq0 c = search (rules, no_constant, filter_read, constants_read)

pub returns : goal.returns
returns c = search (rules, constants_decide, filter_read)
