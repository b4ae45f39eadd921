-- `commands::examining::examine_memory`: long enough and in range, memory is what a call may rely on.
-- Assumes nothing.
use Rattle.std.proofs.Common.{rules}
use Rattle.memory.specs.Bytes.{Bytes}
use Rattle.layer.proofs.Admitted.{working_exact, working_long}
use Rattle.commands.proofs.Examined.{table_right, examined}
use Rattle.commands.proofs.examining.examine_memory.Goals as goal

pub slice_bounds-in_range-end : goal.slice_bounds-in_range-end
slice_bounds-in_range-end c = search (rules, working_exact)

pub in_range-requires : goal.in_range-requires
in_range-requires c = record { right = search (rules, table_right); memory_size_in_bounds = search (rules, working_long) }

pub returns : goal.returns
returns c =
    let table : Bytes c.args.t.now = λ i. (c.type_inv.t i).fits in
    let memory : Bytes c.args.m.now = λ i. (c.type_inv.m i).fits in
    let held = examined c.args.t.now c.args.c c.requires c.args.m.now table memory c.if-m-lt-MEMORY_SIZE.false c.in_range.result c.in_range.ensures in
    rw c.then_some.ensures held
