-- `ipdu_calls::frames::confirm`: an I-PDU that was found and has an open request is closed, then its objects are marked.
-- Assumes nothing.
use Rattle.std.proofs.Common.{rules}
use Rattle.calls.specs.Calls.{confirm_in}
use Rattle.memory.proofs.Tests.{not_found}
use Rattle.calls.proofs.Outcomes.{not_requested, confirms}
use Rattle.ipdu_calls.proofs.frames.confirm.Goals as goal

pub returns-then-not-is_ipdu : goal.returns-then-not-is_ipdu
unfolding confirm_in
returns-then-not-is_ipdu c = search (rules, not_found)

pub returns-then-s-eq0 : goal.returns-then-s-eq0
unfolding confirm_in
returns-then-s-eq0 c = search (rules, not_requested)

pub returns : goal.returns
unfolding confirm_in
returns c = search (rules, confirms)
