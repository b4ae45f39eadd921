-- `table::rules::send_ipdu`: first deadline and deadline, then the times by the mode.
-- Assumes nothing.
use Rattle.std.proofs.Common.{rules}
use Rattle.table.proofs.IpduTests.{first_some, no_deadline, direct, no_period, no_offset, mixed, no_mode, periodic}
use Rattle.table.proofs.IpduReads.{mode_read, times_read}
use Rattle.table.proofs.rules.send_ipdu.Goals as goal

pub returns-then-read16-ne0 : goal.returns-then-read16-ne0
returns-then-read16-ne0 c = search (rules, first_some)

pub returns-then-read16-eq0 : goal.returns-then-read16-eq0
returns-then-read16-eq0 c = search (rules, no_deadline)

pub returns-then-mode-eq0 : goal.returns-then-mode-eq0
returns-then-mode-eq0 c = search (rules, direct, mode_read, times_read)

pub returns-then-read16-eq0-2 : goal.returns-then-read16-eq0-2
returns-then-read16-eq0-2 c = search (rules, no_period, mode_read)

pub returns-then-read16-eq0-3 : goal.returns-then-read16-eq0-3
returns-then-read16-eq0-3 c = search (rules, no_offset, mode_read)

pub returns-then-mode-eq2 : goal.returns-then-mode-eq2
returns-then-mode-eq2 c = search (rules, mixed, mode_read)

pub returns-then-mode-ne1 : goal.returns-then-mode-ne1
returns-then-mode-ne1 c = search (rules, no_mode, mode_read)

pub returns : goal.returns
returns c = search (rules, periodic, mode_read)
