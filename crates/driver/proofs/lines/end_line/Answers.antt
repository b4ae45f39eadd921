-- `driver::lines::end_line`: a line that can be read is made and printed, any other is refused with its number.
-- Assumes nothing.
use Rattle.std.proofs.Common.{rules}
use Rattle.driver.proofs.LineLaws.{line_answered, line_refused}
use Rattle.driver.proofs.lines.end_line.Goals as goal

pub returns-in-Some : goal.returns-in-Some
returns-in-Some c = search (rules, line_answered)

pub returns-in-None : goal.returns-in-None
returns-in-None c = search (rules, line_refused)
