-- `memory::texts::put_number`: the blank, then the digits.
-- Assumes nothing.
use Rattle.std.proofs.Common.{rules}
use Rattle.memory.proofs.Puts.{put_byte}
use Rattle.memory.proofs.texts.put_number.Goals as goal

pub returns : goal.returns
returns c = search (rules, put_byte)
