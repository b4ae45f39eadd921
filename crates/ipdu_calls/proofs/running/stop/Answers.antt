-- `ipdu_calls::running::stop`: it writes that the layer does not run.
-- Assumes nothing.
use Rattle.state.specs.Layout.{with_running}
use Rattle.calls.specs.Calls.{stop_in}
use Rattle.ipdu_calls.proofs.running.stop.Goals as goal

pub returns : goal.returns
unfolding stop_in with_running
returns c = cc
