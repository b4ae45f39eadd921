-- `startup::write_all`: its four steps are those of the definition.
-- Assumes nothing.
use Rattle.std.proofs.Common.{rules}
use Rattle.startup.proofs.Fresh.{all_written}
use Rattle.startup.proofs.write_all.Goals as goal

pub returns : goal.returns
returns c = search (rules, all_written)
