-- `ranges::objects_in_range`: no row passed is out of range, and the depths passed are where the next queue begins.
-- Assumes nothing.
use Rattle.std.proofs.Common.{false, ◌≡◌, ◌*◌}
use Rattle.memory.specs.Search.{any_below}
use Rattle.table.specs.Check.{depths}
use Rattle.state.specs.Ranges.{object_out}
use Rattle.ranges.specs.Inner.{queue_unit}
use Rattle.ranges.proofs.objects_in_range.Given as goal

abbrev pub invariant-loop-i : goal.invariant-loop-i
invariant-loop-i l = (any_below l.i (object_out l.t l.c l.m) ≡ false) × (l.queue ≡ queue_unit * depths l.t l.c l.i)
