-- `ranges::object_in_range`: the word of the row under its two masks (`ObjectWords`).
-- Assumes nothing.
use Rattle.std.proofs.Common.{rules, eq-eqb, ne_eqb}
use Rattle.memory.specs.Bytes.{Bytes}
use Rattle.ranges.proofs.ObjectWords.{empty_in_range, fixed_out, used_decides}
use Rattle.ranges.proofs.object_in_range.Goals as goal

pub returns-then-x-queue : goal.returns-then-x-queue
returns-then-x-queue c =
    let memory : Bytes c.args.m.now = λ i. (c.type_inv.m i).fits in
    rw (eq-eqb _ _ c.if-x-queue.true) (search (rules, empty_in_range))

pub returns-else-x-queue-2 : goal.returns-else-x-queue-2
returns-else-x-queue-2 c =
    let memory : Bytes c.args.m.now = λ i. (c.type_inv.m i).fits in
    rw (ne_eqb _ _ c.if-x-queue-2.false) (search (rules, fixed_out))

pub returns-then-x-queue-2 : goal.returns-then-x-queue-2
returns-then-x-queue-2 c =
    let memory : Bytes c.args.m.now = λ i. (c.type_inv.m i).fits in
    search (rules, used_decides)
