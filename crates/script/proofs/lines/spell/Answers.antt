-- `script::lines::spell`: zeros are put, and then the last bytes of the number's eight (`spelt_put`).
-- Assumes nothing.
use Rattle.std.proofs.Common.{rules}
use Rattle.script.proofs.BytesDown.{spelt_put}
use Rattle.script.proofs.lines.spell.Goals as goal

pub returns : goal.returns
returns c =
    let a = c.args in
    spelt_put a.k c.min-n.result a.x a.bytes.now c.min-n.ensures c.ranges.x.fits c.requires (c.fill.ensures.after (λ y zero. zero)) (search rules)
    c.copy_from_slice.ensures.after
