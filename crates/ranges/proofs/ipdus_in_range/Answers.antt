-- `ranges::ipdus_in_range`: no row passed is out of range, and the loop ends at the first that is.
-- Assumes nothing.
use Rattle.std.proofs.Common.{rules}
use Rattle.state.proofs.Turns.{ipdu_out_lem, ipdus_upto, none_out}
use Rattle.ranges.proofs.ipdus_in_range.Goals as goal

pub returns-then-not-ipdu_in_range : goal.returns-then-not-ipdu_in_range
returns-then-not-ipdu_in_range c = search (rules, ipdu_out_lem)

pub loop-k-preserved : goal.loop-k-preserved
loop-k-preserved c = search (rules, ipdus_upto)

pub returns : goal.returns
returns c = search (rules, none_out)
