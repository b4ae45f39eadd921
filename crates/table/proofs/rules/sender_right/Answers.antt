-- `table::rules::sender_right`: none, one that is not there, or the kind of one that is.
-- Assumes nothing.
use Rattle.std.proofs.Common.{rules}
use Rattle.table.specs.Records.{object_record}
use Rattle.table.proofs.FieldTests.{no_sender, sender_past, sender_kind}
use Rattle.table.proofs.rules.sender_right.Goals as goal

pub returns-then-sender-eq-NONE : goal.returns-then-sender-eq-NONE
unfolding object_record
returns-then-sender-eq-NONE c = search (rules, no_sender)

pub returns-then-m-sender : goal.returns-then-m-sender
unfolding object_record
returns-then-m-sender c = search (rules, sender_past)

pub returns : goal.returns
unfolding object_record
returns c = search (rules, sender_kind)
