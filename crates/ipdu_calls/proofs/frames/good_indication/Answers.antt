-- `ipdu_calls::frames::good_indication`: bytes of the length of the I-PDU fit its slot, and leave the stored numbers in range.
-- Assumes nothing.
use Rattle.std.proofs.Common.{rules}
use Rattle.memory.specs.Bytes.{Bytes}
use Rattle.calls.proofs.Outcomes.{wrong_length, frame_fits, frame_few, copied_ready, frame_taken}
use Rattle.ipdu_calls.proofs.frames.good_indication.Goals as goal

pub returns-then-bytes-size : goal.returns-then-bytes-size
returns-then-bytes-size c = search (rules, wrong_length)

pub put_frame-requires : goal.put_frame-requires
put_frame-requires c = (search (rules, frame_fits), search (rules, frame_few))

pub deliver_frame-requires : goal.deliver_frame-requires
deliver_frame-requires c =
    let known : Bytes c.args.bytes.now = λ i. (c.type_inv.bytes i).fits in
    record { ready = search (rules, copied_ready); ipdu_lt_ipdus = search rules }

pub returns : goal.returns
returns c = search (rules, frame_taken)
