-- `table::search::first_wrong_ipdu`: no I-PDU passed is wrong.
-- Assumes nothing.
use Rattle.std.proofs.Common.{false, ◌≡◌}
use Rattle.memory.specs.Search.{any_below}
use Rattle.table.specs.Check.{wrong_ipdu}
use Rattle.table.proofs.search.first_wrong_ipdu.Given as goal

abbrev pub invariant-loop-k : goal.invariant-loop-k
invariant-loop-k l = any_below l.k (wrong_ipdu l.t) ≡ false
