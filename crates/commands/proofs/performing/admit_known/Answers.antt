-- `commands::performing::admit_known`: over an accepted table and a memory in range, the area and byte 0 decide.
-- Assumes nothing.
use Rattle.std.proofs.Common.{rules}
use Rattle.commands.proofs.Performed.{known_short, known_stopped, known_runs}
use Rattle.commands.proofs.performing.admit_known.Goals as goal

pub returns-then-not-fits : goal.returns-then-not-fits
returns-then-not-fits c = search (rules, known_short)

pub returns-then-read8-eq0 : goal.returns-then-read8-eq0
returns-then-read8-eq0 c = search (rules, known_stopped)

pub returns : goal.returns
returns c = search (rules, known_runs)
