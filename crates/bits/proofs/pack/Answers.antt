-- `bits::pack`: the frame stands at the front of a slot, is packed there and is copied back (`packs`).
-- Assumes nothing.
use Rattle.std.proofs.Common.{◌≤◌, ◌++◌, length, drop, rules, ap, List, ℕ}
use Rattle.bits.proofs.Copies.{cleared, frame_short, packs, slot_long}
use Rattle.bits.proofs.pack.Goals as goal

pub returns-clause-frame_after : goal.returns-clause-frame_after
returns-clause-frame_after c =
    let short : length c.args.frame.now ≤ 8 = search (rules, frame_short) in
    let long = slot_long c.copy_from_slice.new.self _ short c.copy_from_slice.ensures.len in
    packs _ _ _ _ _ c.is_place.ensures c.if-not-is_place.false c.position-at.ensures (ap (λ (f : List ℕ). f ++ drop (length c.args.frame.now) cleared) c.copy_from_slice.ensures.after)
    long _ c.pack_slot.ensures c.copy_from_slice-2.ensures.after
