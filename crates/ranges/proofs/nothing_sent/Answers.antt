-- `ranges::nothing_sent`: the tests are those of the definition, at numbers that are read two at a time.
-- Assumes nothing.
use Rattle.std.proofs.Common.{arith, refl, add-zero}
use Rattle.std.proofs.lemmas.Grind.{common_steps}
use Rattle.state.specs.Layout.{ipdu_state}
use Rattle.ranges.proofs.RowReads.{flags_read, ticks_read}
use Rattle.ranges.proofs.nothing_sent.Goals as goal

pub returns-then-read32-eq0 : goal.returns-then-read32-eq0
unfolding ipdu_state
returns-then-read32-eq0 c =
    let flags = flags_read c.args.m.now c.args.number.0 refl in
    let ticks = ticks_read c.args.m.now c.args.number.0 refl in
    grind (arith, common_steps, add-zero, flags, ticks)

pub returns-else-read32-eq0 : goal.returns-else-read32-eq0
unfolding ipdu_state
returns-else-read32-eq0 c =
    let flags = flags_read c.args.m.now c.args.number.0 refl in
    let ticks = ticks_read c.args.m.now c.args.number.0 refl in
    grind (arith, common_steps, add-zero, flags, ticks)
