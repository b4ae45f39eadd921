-- `memory::write64`: std's bytes of a number are its bytes (`put_low`), and the number is the one that is given.
-- Assumes nothing.
use Rattle.std.proofs.Common.{ap, ◌∙◌, arith, w64}
use Rattle.std.specs.Int.{to_le_bytes}
use Rattle.memory.proofs.Parts.{put_low}
use Rattle.memory.proofs.write64.Goals as goal

pub returns : goal.returns
returns c = put_low 8 _ c.args.x _ c.put.ensures (c.to_le_bytes.ensures ∙ ap (to_le_bytes w64) (omega arith))
