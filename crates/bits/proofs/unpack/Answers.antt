-- `bits::unpack`: the frame stands at the front of a slot, where its bits are the slot's (`unpacks`).
-- Assumes nothing.
use Rattle.std.proofs.Common.{◌≤◌, length, rules, ap, List, ℕ, ◌++◌, drop}
use Rattle.bits.proofs.Copies.{frame_short, slot_long, unpacks, cleared}
use Rattle.bits.proofs.unpack.Goals as goal

pub returns : goal.returns
returns c =
    let short : length c.args.frame.now ≤ 8 = search (rules, frame_short) in
    let long = slot_long c.copy_from_slice.new.self _ short c.copy_from_slice.ensures.len in
    unpacks _ _ _ _ _ c.is_place.ensures c.if-not-is_place.false c.position-at.ensures
    (ap (λ (f : List ℕ). f ++ drop (length c.args.frame.now) cleared) c.copy_from_slice.ensures.after) long _ c.unpack_slot.ensures
