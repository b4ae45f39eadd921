-- `driver::lines::spelt`: the nine bytes are all put (`spelt_whole`).
-- Assumes nothing.
use Rattle.std.proofs.Common.{replicate, refl}
use Rattle.driver.proofs.LineLaws.{spelt_whole}
use Rattle.driver.proofs.lines.spelt.Goals as goal

pub returns : goal.returns
returns c = rw c.spell.ensures (spelt_whole c.args.value (replicate 9 0) refl)
