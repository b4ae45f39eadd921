-- `driver::finish`: what is put has room (`finish_room`).
-- Assumes nothing.
use Rattle.std.proofs.Common.{rules}
use Rattle.driver.proofs.PartLaws.{finish_room}
use Rattle.driver.proofs.finish.Goals as goal

pub returns-clause-upper_bound : goal.returns-clause-upper_bound
returns-clause-upper_bound c = search (rules, finish_room)
