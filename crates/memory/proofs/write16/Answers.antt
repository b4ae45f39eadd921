-- `memory::write16`: std's bytes of a number are its bytes (`put_low`).
-- Assumes nothing.
use Rattle.std.proofs.Common.{ap, take}
use Rattle.memory.proofs.Parts.{put_low}
use Rattle.memory.proofs.write16.Goals as goal

pub returns : goal.returns
returns c = put_low 2 _ c.args.x _ c.put.ensures (ap (take 2) c.to_le_bytes.ensures)
