-- `memory::put`: the part that is written through its slice is the bytes, and the rest is as it was (`put_replaced`).
-- Assumes nothing.
use Rattle.std.proofs.Common.{arith}
use Rattle.memory.proofs.Parts.{put_replaced}
use Rattle.memory.proofs.put.Goals as goal

pub returns : goal.returns
returns c = rw c.copy_from_slice.ensures.after (put_replaced _ _ _ _ (omega arith))
