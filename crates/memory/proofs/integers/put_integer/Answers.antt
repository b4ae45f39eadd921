-- `memory::integers::put_integer`: a minus and how far a negative value is below 0, or the value as it stands.
-- Assumes nothing.
use Rattle.std.proofs.Common.{arith, length-set}
use Rattle.memory.proofs.IntegerLaws.{put_negative, room_for_negative, put_plain, room_for_plain}
use Rattle.memory.proofs.integers.put_integer.Goals as goal

pub bounds-out-at-then-signed-v : goal.bounds-out-at-then-signed-v
bounds-out-at-then-signed-v c =
    let a = c.args in
    simp length-set (omega (arith, room_for_negative a.signed a.v c.if-signed-v.true c.ranges.v.fits a.at a.out.now c.requires))

pub put_decimal-requires : goal.put_decimal-requires
put_decimal-requires c =
    let a = c.args in
    simp length-set (room_for_negative a.signed a.v c.if-signed-v.true c.ranges.v.fits a.at a.out.now c.requires)

pub returns-then-signed-v : goal.returns-then-signed-v
returns-then-signed-v c =
    put_negative c.args.signed c.args.v c.if-signed-v.true c.ranges.v.fits
    c.put_decimal.ensures

pub put_number-requires : goal.put_number-requires
put_number-requires c =
    let a = c.args in
    room_for_plain a.signed a.v c.if-signed-v.false a.at a.out.now c.requires

pub returns : goal.returns
returns c = put_plain c.args.signed c.args.v c.if-signed-v.false c.put_number.ensures
