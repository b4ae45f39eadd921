-- `startup::start_ipdus`: the invariant is the turns of the I-PDUs passed.
-- Assumes nothing.
use Rattle.std.proofs.Common.{◌≡◌, length}
use Rattle.memory.specs.Search.{fold}
use Rattle.startup.specs.Start.{start_ipdu}
use Rattle.startup.proofs.start_ipdus.Given as goal

abbrev pub invariant-loop-k : goal.invariant-loop-k
invariant-loop-k l = (l.m ≡ fold l.k (start_ipdu l.t) l.initial.m) × (length l.m ≡ length l.initial.m)
