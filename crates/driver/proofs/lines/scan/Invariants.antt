-- `driver::lines::scan`: each byte that is no line feed changes the reader alone (`scan_more`).
-- Assumes nothing.
use Rattle.std.proofs.Common.{false, List, ◌≡◌, ℕ, ◌-◌, take, drop}
use Rattle.script_run.specs.Parts.{Board, with_reader, advanced}
use Rattle.driver.proofs.lines.scan.Given as goal

abbrev pub invariant-loop-at : goal.invariant-loop-at
invariant-loop-at l =
    (t : List ℕ) (b : Board) → b.ended ≡ false → b.reader ≡ l.initial.line → advanced t b (take (l.at - l.from) (drop l.from l.part)) ≡ with_reader b l.line
