-- `layer::send`: admitted, table, memory and area are what the inner call asks for; refused, all bytes stay.
-- Assumes nothing.
use Rattle.std.proofs.Common.{rules}
use Rattle.layer.specs.Step.{step}
use Rattle.layer.proofs.Admitted.{admitted_long, admitted_exact, admitted_ready, admitted_area, admitted_gives, refused_passed}
use Rattle.layer.proofs.send.Goals as goal

pub returns-in_err-c : goal.returns-in_err-c
unfolding step
returns-in_err-c c = refused_passed _ c.admit.ensures c.in_err-c.was c.from_residual.ensures.1

pub slice_bounds-send-end : goal.slice_bounds-send-end
slice_bounds-send-end c = admitted_long c.admit.ensures c.in_ok-c.was

pub slice_bounds-send-end-2 : goal.slice_bounds-send-end-2
slice_bounds-send-end-2 c = search (rules, admitted_exact c.admit.ensures c.in_ok-c.was)

pub send-requires : goal.send-requires
send-requires c = record { ready = admitted_ready c.admit.ensures c.in_ok-c.was; area_size_in_bounds = admitted_area c.admit.ensures c.in_ok-c.was }

pub returns : goal.returns
unfolding step
returns c = admitted_gives _ _ c.admit.ensures c.in_ok-c.was c.send.ensures
