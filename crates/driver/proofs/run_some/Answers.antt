-- `driver::run_some`: between two lines all stands where the board says (`SoFar`); a line's bytes and its line feed keep that.
-- Assumes nothing.
use Rattle.std.proofs.Common.{arith, refl, ◌∙◌, length}
use Rattle.driver.proofs.PartRuns.{turn_goes, turn_ends, line_read, line_fed, so_far_none, so_far_done}
use Rattle.driver.proofs.run_some.Goals as goal

pub loop-at-init : goal.loop-at-init
loop-at-init c = (so_far_none c.args.t.now c.args.part.now c.args.progress c.args.m.now c.args.area.now c.args.out.now c.examine.ensures, refl, refl, refl)

pub scan-reached-requires : goal.scan-reached-requires
scan-reached-requires c = c.loop-at.invariant.0.inside

-- the bytes of a line were read

pub end_line-run-requires : goal.end_line-run-requires
end_line-run-requires c =
    let turn = turn_goes c.loop-at.at (length c.args.part.now) (length c.args.out.now) c.loop-at.run c.goes_on.ensures c.loop-at-test.true in
    let read = line_read c.args.t.now c.args.part.now c.args.progress c.args.m.now c.args.area.now c.args.out.now c.loop-at.invariant.0 turn c.scan-reached.ensures c.with_reader-run.ensures in
    record { holds = read.stands.stands.known; longest_line_in_bounds = omega (arith, read.room_left, c.loop-at.invariant.3) }

pub loop-at-smaller : goal.loop-at-smaller
loop-at-smaller c =
    let turn = turn_goes c.loop-at.at (length c.args.part.now) (length c.args.out.now) c.loop-at.run c.goes_on.ensures c.loop-at-test.true in
    omega (arith, turn.low, c.if-at-n.false)

pub loop-at-preserved : goal.loop-at-preserved
loop-at-preserved c =
    let turn = turn_goes c.loop-at.at (length c.args.part.now) (length c.args.out.now) c.loop-at.run c.goes_on.ensures c.loop-at-test.true in
    let read = line_read c.args.t.now c.args.part.now c.args.progress c.args.m.now c.args.area.now c.args.out.now c.loop-at.invariant.0 turn c.scan-reached.ensures c.with_reader-run.ensures in
    (read.stands, c.loop-at.invariant.1, c.loop-at.invariant.2, c.loop-at.invariant.3)

-- and its line feed

pub overflow_add-at : goal.overflow_add-at
overflow_add-at c = record { fits = omega (arith, c.if-at-n.true, c.well_formed) }

pub loop-at-smaller-then-at-n : goal.loop-at-smaller-then-at-n
loop-at-smaller-then-at-n c =
    let turn = turn_goes c.loop-at.at (length c.args.part.now) (length c.args.out.now) c.loop-at.run c.goes_on.ensures c.loop-at-test.true in
    omega (arith, turn.low, c.scan-reached.ensures.low)

pub loop-at-preserved-then-at-n : goal.loop-at-preserved-then-at-n
loop-at-preserved-then-at-n c =
    let turn = turn_goes c.loop-at.at (length c.args.part.now) (length c.args.out.now) c.loop-at.run c.goes_on.ensures c.loop-at-test.true in
    let read = line_read c.args.t.now c.args.part.now c.args.progress c.args.m.now c.args.area.now c.args.out.now c.loop-at.invariant.0 turn c.scan-reached.ensures c.with_reader-run.ensures in (
      line_fed c.args.t.now c.args.part.now c.args.progress c.args.m.now c.args.area.now c.args.out.now read c.scan-reached.ensures c.if-at-n.true c.end_line-run.ensures,
      c.end_line-run.auto.m ∙ c.loop-at.invariant.1,
      c.end_line-run.auto.area ∙ c.loop-at.invariant.2,
      c.end_line-run.auto.out ∙ c.loop-at.invariant.3,
    )

-- the end of the part, or of the room

pub returns : goal.returns
returns c =
    let why =
    turn_ends c.loop-at.at (length c.args.part.now) (length c.args.out.now) c.loop-at.run c.goes_on.ensures c.loop-at.invariant.0.inside c.loop-at-test.false in
    so_far_done c.args.t.now c.args.part.now c.args.progress c.args.m.now c.args.area.now c.args.out.now c.loop-at.invariant.0 why c.read_of.ensures
