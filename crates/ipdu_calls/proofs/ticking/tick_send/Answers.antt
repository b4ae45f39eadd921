-- `ipdu_calls::ticking::tick_send`: with nothing to do the row stays as it is; else delay, deadline, period and request as in the definition.
-- Assumes nothing.
use Rattle.std.proofs.Common.{rules}
use Rattle.memory.specs.Bytes.{Bytes}
use Rattle.ipdu_calls.proofs.Idle.{send_idle, send_none_due}
use Rattle.ipdu_calls.proofs.ticking.tick_send.Goals as goal

pub returns-then-r : goal.returns-then-r
returns-then-r c =
    let bytes : Bytes c.args.m.now = λ i. (c.slice_known-1.given i).fits in
    record { row = search (rules, send_idle); due = search (rules, send_none_due) }
