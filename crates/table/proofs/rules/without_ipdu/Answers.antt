-- `table::rules::without_ipdu`: the place of a whole value, then sender, transfer property and depth by the kind.
-- Assumes nothing.
use Rattle.std.proofs.Common.{rules}
use Rattle.table.proofs.ObjectTests.{another_ipdu, start_some, not_whole, not_little, sent_from_sender, sent_outside, no_kind, transfer_wrong, sender_decides}
use Rattle.table.proofs.rules.without_ipdu.Goals as goal

pub returns-then-read8-ne-NONE : goal.returns-then-read8-ne-NONE
returns-then-read8-ne-NONE c = search (rules, another_ipdu)

pub returns-then-read8-ne0 : goal.returns-then-read8-ne0
returns-then-read8-ne0 c = search (rules, start_some)

pub returns-then-read8-ne32 : goal.returns-then-read8-ne32
returns-then-read8-ne32 c = search (rules, not_whole)

pub returns-then-order : goal.returns-then-order
returns-then-order c = search (rules, not_little)

pub returns-then-sender-ne-NONE : goal.returns-then-sender-ne-NONE
returns-then-sender-ne-NONE c = search (rules, sent_from_sender)

pub returns-then-kind-eq-SENDING : goal.returns-then-kind-eq-SENDING
returns-then-kind-eq-SENDING c = search (rules, sent_outside)

pub returns-then-kind-ne-RECEIVING : goal.returns-then-kind-ne-RECEIVING
returns-then-kind-ne-RECEIVING c = search (rules, no_kind)

pub returns-then-not-transfer_right : goal.returns-then-not-transfer_right
returns-then-not-transfer_right c = search (rules, transfer_wrong)

pub returns : goal.returns
returns c = search (rules, sender_decides)
