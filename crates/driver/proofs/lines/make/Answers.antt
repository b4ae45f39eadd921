-- `driver::lines::make`: the bytes spelt are those of the frame.
-- Assumes nothing.
use Rattle.driver.proofs.LineLaws.{spelt_gave}
use Rattle.driver.proofs.lines.make.Goals as goal

pub returns-clause-effect_gave : goal.returns-clause-effect_gave
returns-clause-effect_gave c = spelt_gave c.args.frame c.requires.length_bound c.args.area.now c.args.m.now _ c.spelt-bytes.ensures c.perform.ensures.effect_gave
