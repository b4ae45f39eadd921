-- `ipdu_calls::running::periodic`: it sets the periods.
-- Assumes nothing.
use Rattle.calls.specs.Calls.{periodic_in}
use Rattle.ipdu_calls.proofs.running.periodic.Goals as goal

pub returns : goal.returns
unfolding periodic_in
returns c = cc
