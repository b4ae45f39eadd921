-- `ipdu_calls::frames::put_frame`: the bytes passed are stored, one after the other (`stored_more`), and there are no more than eight.
-- Assumes nothing.
use Rattle.std.proofs.Common.{◌≤◌, arith, rules, length}
use Rattle.memory.proofs.Parts.{stored_all}
use Rattle.ipdu_calls.proofs.frames.put_frame.Goals as goal

pub returns-then-bytes-i : goal.returns-then-bytes-i
returns-then-bytes-i c = search (rules, stored_all)

pub returns : goal.returns
returns c =
    let all : length c.args.bytes.now ≤ c.loop-i.i = omega arith in
    stored_all _ _ _ _ c.loop-i.invariant.1 all c.requires.0
