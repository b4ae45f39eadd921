-- `startup::start_objects`: the invariant is the turns of the objects passed, and the sum of their depths.
-- Assumes nothing.
use Rattle.std.proofs.Common.{rules}
use Rattle.message.proofs.ObjectsInRange.{right_start}
use Rattle.startup.proofs.Fresh.{starts_placed, first_fits, first_more, objects_more}
use Rattle.startup.proofs.start_objects.Goals as goal

pub decode_object-o-requires : goal.decode_object-o-requires
decode_object-o-requires c = record { number_in_bounds = search rules; number_bound = search (rules, right_start) }

pub start_object-requires : goal.start_object-requires
start_object-requires c = record { placed = search (rules, starts_placed); row_size_in_bounds = search rules }

pub overflow_add-first : goal.overflow_add-first
overflow_add-first c = record { fits = search (rules, first_fits) }

pub loop-i-preserved : goal.loop-i-preserved
loop-i-preserved c = (search (rules, objects_more), search rules, search (rules, first_more))
