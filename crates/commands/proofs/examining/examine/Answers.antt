-- `commands::examining::examine`: the verdict on the table tells whether memory is looked at.
-- Assumes nothing.
use Rattle.std.proofs.Common.{rules}
use Rattle.commands.proofs.Examined.{verdict_accepts}
use Rattle.commands.proofs.examining.examine.Goals as goal

pub examine_memory-requires : goal.examine_memory-requires
examine_memory-requires c = search (rules, verdict_accepts)
