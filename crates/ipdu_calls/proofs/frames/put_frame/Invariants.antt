-- `ipdu_calls::frames::put_frame`: the bytes passed are stored, one after the other (`stored_more`), and there are no more than eight.
-- Assumes nothing.
use Rattle.std.proofs.Common.{◌≡◌, ◌≤◌, length, take}
use lib.Seq.{sets}
use Rattle.ipdu_calls.proofs.frames.put_frame.Given as goal

abbrev pub invariant-loop-i : goal.invariant-loop-i
invariant-loop-i l = (l.i ≤ length l.bytes) × (l.m ≡ sets l.initial.m l.at (take l.i l.bytes)) × (length l.m ≡ length l.initial.m)
