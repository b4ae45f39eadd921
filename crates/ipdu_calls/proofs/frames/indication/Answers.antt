-- `ipdu_calls::frames::indication`: an I-PDU that was found takes the bytes over, or marks its objects.
-- Assumes nothing.
use Rattle.std.proofs.Common.{rules}
use Rattle.calls.specs.Calls.{indication_in}
use Rattle.memory.proofs.Tests.{not_found}
use Rattle.calls.proofs.Outcomes.{indicates_bad, indicates_good}
use Rattle.ipdu_calls.proofs.frames.indication.Goals as goal

pub returns-then-not-is_ipdu : goal.returns-then-not-is_ipdu
unfolding indication_in
returns-then-not-is_ipdu c = search (rules, not_found)

pub returns-then-not-good : goal.returns-then-not-good
unfolding indication_in
returns-then-not-good c = search (rules, indicates_bad)

pub returns : goal.returns
unfolding indication_in
returns c = search (rules, indicates_good)
