-- `layer::status`: admitted, table and memory are what the inner call asks for; refused, all bytes stay.
-- Assumes nothing.
use Rattle.std.proofs.Common.{rules}
use Rattle.layer.specs.Step.{step}
use Rattle.layer.proofs.Admitted.{admitted_exact, admitted_ready, admitted_reads, refused_passed}
use Rattle.layer.proofs.status.Goals as goal

pub returns-in_err-c : goal.returns-in_err-c
unfolding step
returns-in_err-c c = refused_passed _ c.admit.ensures c.in_err-c.was c.from_residual.ensures.1

pub slice_bounds-status-end : goal.slice_bounds-status-end
slice_bounds-status-end c = search (rules, admitted_exact c.admit.ensures c.in_ok-c.was)

pub status-requires : goal.status-requires
status-requires c = admitted_ready c.admit.ensures c.in_ok-c.was

pub returns : goal.returns
unfolding step
returns c = admitted_reads _ _ c.admit.ensures c.in_ok-c.was c.status.ensures
