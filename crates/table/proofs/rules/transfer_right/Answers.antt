-- `table::rules::transfer_right`: both numbers are zero, or the kind tells which may not be.
-- Assumes nothing.
use Rattle.std.proofs.Common.{rules}
use Rattle.table.proofs.FieldTests.{neither, sent_transfer, received_transfer}
use Rattle.table.proofs.ObjectReads.{transfer_read}
use Rattle.table.proofs.rules.transfer_right.Goals as goal

pub returns-then-both-eq0 : goal.returns-then-both-eq0
returns-then-both-eq0 c = search (rules, neither, transfer_read)

pub returns-then-kind-eq-SENDING : goal.returns-then-kind-eq-SENDING
returns-then-kind-eq-SENDING c = search (rules, sent_transfer, transfer_read)

pub returns : goal.returns
returns c = search (rules, received_transfer)
