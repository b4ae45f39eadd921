-- `ipdu_calls::ticking::tick_receive`: a timer that does not run leaves the row as it is, and any other is stored.
-- Assumes nothing.
use Rattle.std.proofs.Common.{rules}
use Rattle.memory.specs.Bytes.{Bytes}
use Rattle.ipdu_calls.proofs.Idle.{receive_idle, receive_none_due}
use Rattle.ipdu_calls.proofs.ticking.tick_receive.Goals as goal

pub returns-then-s-eq0 : goal.returns-then-s-eq0
returns-then-s-eq0 c =
    let bytes : Bytes c.args.m.now = λ i. (c.slice_known-1.given i).fits in
    record { row = search (rules, receive_idle); due = search (rules, receive_none_due) }
