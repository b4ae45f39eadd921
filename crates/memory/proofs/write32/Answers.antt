-- `memory::write32`: std's bytes of a number are its bytes (`put_low`).
-- Assumes nothing.
use Rattle.memory.proofs.Parts.{put_low}
use Rattle.memory.proofs.write32.Goals as goal

pub returns : goal.returns
returns c = put_low 4 _ c.args.x _ c.put.ensures c.to_le_bytes.ensures
