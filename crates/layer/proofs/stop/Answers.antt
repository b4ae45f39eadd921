-- `layer::stop`: admitted, table and memory are what the inner call asks for; refused, all bytes stay.
-- Assumes nothing.
use Rattle.std.proofs.Common.{rules}
use Rattle.layer.specs.Step.{step}
use Rattle.layer.proofs.Admitted.{admitted_long, admitted_exact, admitted_some, admitted_gives, refused_passed}
use Rattle.layer.proofs.stop.Goals as goal

pub returns-in_err-admit : goal.returns-in_err-admit
unfolding step
returns-in_err-admit c = refused_passed _ c.admit.ensures c.in_err-admit.was c.from_residual.ensures.1

pub slice_bounds-stop-end : goal.slice_bounds-stop-end
slice_bounds-stop-end c = admitted_long c.admit.ensures c.in_ok-admit.was

pub slice_bounds-stop-end-2 : goal.slice_bounds-stop-end-2
slice_bounds-stop-end-2 c = search (rules, admitted_exact c.admit.ensures c.in_ok-admit.was)

pub stop-requires : goal.stop-requires
stop-requires c = admitted_some c.admit.ensures c.in_ok-admit.was

pub returns : goal.returns
unfolding step
returns c = admitted_gives _ _ c.admit.ensures c.in_ok-admit.was c.stop.ensures
