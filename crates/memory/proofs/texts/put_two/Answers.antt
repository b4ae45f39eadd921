-- `memory::texts::put_two`: one digit, then the other.
-- Assumes nothing.
use Rattle.std.proofs.Common.{length-set, rules}
use Rattle.memory.proofs.Puts.{put_two}
use Rattle.memory.proofs.texts.put_two.Goals as goal

pub bounds-out-at-2 : goal.bounds-out-at-2
bounds-out-at-2 c = simp length-set (search rules)

pub returns : goal.returns
returns c = search (rules, put_two)
