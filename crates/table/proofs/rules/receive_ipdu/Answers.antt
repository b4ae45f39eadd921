-- `table::rules::receive_ipdu`: the eight bytes that a send I-PDU has, then the two deadlines.
-- Assumes nothing.
use Rattle.std.proofs.Common.{rules}
use Rattle.table.proofs.IpduTests.{sending_some, unwatched, watched}
use Rattle.table.proofs.IpduReads.{word_read}
use Rattle.table.proofs.rules.receive_ipdu.Goals as goal

pub returns-then-read64-ne0 : goal.returns-then-read64-ne0
returns-then-read64-ne0 c = search (rules, sending_some, word_read)

pub returns-then-read16-eq0 : goal.returns-then-read16-eq0
returns-then-read16-eq0 c = search (rules, unwatched, word_read)

pub returns : goal.returns
returns c = search (rules, watched, word_read)
