-- `report::put_text`: the part that is written through its slice is the text (`text_put`).
-- Assumes nothing.
use Rattle.std.proofs.Common.{arith}
use Rattle.report.proofs.Puts.{text_put}
use Rattle.report.proofs.put_text.Goals as goal

pub returns : goal.returns
returns c = rw c.copy_from_slice.ensures.after (text_put _ _ _ _ (omega arith) c.requires)
