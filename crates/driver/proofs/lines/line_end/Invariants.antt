-- `driver::lines::line_end`: no byte passed is a line feed.
-- Assumes nothing.
use Rattle.std.proofs.Common.{◌≡◌, ℕ, ◌≤◌, ◌<◌, get_or}
use Rattle.memory.specs.Texts.{line_feed}
use Rattle.driver.proofs.lines.line_end.Given as goal

abbrev pub invariant-loop-at : goal.invariant-loop-at
invariant-loop-at l = (j : ℕ) → l.from ≤ j → j < l.at → get_or l.part j 0 ≡ line_feed → ⊥
