-- `ranges::objects_in_range`: no row passed is out of range, and the depths passed are where the next queue begins.
-- Assumes nothing.
use Rattle.std.proofs.Common.{rules}
use Rattle.state.proofs.Turns.{object_out_lem, objects_upto, none_out}
use Rattle.ranges.proofs.RowReads.{depth_limit}
use Rattle.ranges.proofs.ObjectRanges.{whole_units, in_units, next_queue, queue_fits}
use Rattle.ranges.proofs.objects_in_range.Goals as goal

pub object_in_range-requires : goal.object_in_range-requires
object_in_range-requires c = record { shape = search rules; memory_size_in_bounds = (search rules, search rules, search (rules, depth_limit), search (rules, whole_units)) }

pub returns-then-not-object_in_range : goal.returns-then-not-object_in_range
returns-then-not-object_in_range c = search (rules, object_out_lem, in_units)

pub overflow_add-queue : goal.overflow_add-queue
overflow_add-queue c = record { fits = search (rules, queue_fits, depth_limit) }

pub loop-i-preserved : goal.loop-i-preserved
loop-i-preserved c =
    let inv = c.loop-i.invariant in (
      objects_upto _ c.args.c _ (in_units _ inv.1) _ c.object_in_range.ensures c.if-not-object_in_range.false inv.0,
      search (rules, next_queue, depth_limit),
    )

pub returns : goal.returns
returns c = search (rules, none_out)
