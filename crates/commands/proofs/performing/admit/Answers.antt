-- `commands::performing::admit`: what is known is what the shorter way asks for.
-- Assumes nothing.
use Rattle.std.proofs.Common.{rules}
use Rattle.commands.proofs.Performed.{holds_known}
use Rattle.commands.proofs.performing.admit.Goals as goal

pub admit_known-requires : goal.admit_known-requires
admit_known-requires c = search (rules, holds_known)
