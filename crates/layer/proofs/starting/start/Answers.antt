-- `layer::starting::start`: the check of the table and the length of memory tell what is done.
-- Assumes nothing.
use Rattle.std.proofs.Common.{rules, sym, ◌∙◌}
use Rattle.std.proofs.lemmas.Result.{err_from_is_err_and}
use borrow.Author.Tests.{lt-leb}
use Rattle.table.proofs.Accepted.{accepted_right}
use Rattle.layer.specs.Admission.{start_admission}
use Rattle.layer.specs.Step.{step}
use Rattle.layer.proofs.Admitted.{working_length, working_exact}
use Rattle.layer.proofs.Started.{starts_long}
use Rattle.layer.proofs.starting.start.Goals as goal

pub returns-in_err-c : goal.returns-in_err-c
unfolding step start_admission
returns-in_err-c c =
    let p = err_from_is_err_and c.from_residual.result c.from_residual.ensures.1 in
    rw (p.1, p.2, sym c.check.ensures ∙ c.in_err-c.was)

pub returns-then-m-lt-MEMORY_SIZE : goal.returns-then-m-lt-MEMORY_SIZE
unfolding step start_admission
returns-then-m-lt-MEMORY_SIZE c = rw (sym c.check.ensures ∙ c.in_ok-c.was, lt-leb _ _ c.if-m-lt-MEMORY_SIZE.true)

pub slice_bounds-write_all-end-2 : goal.slice_bounds-write_all-end-2
slice_bounds-write_all-end-2 c = search (rules, working_exact)

pub write_all-requires : goal.write_all-requires
write_all-requires c = record { right = accepted_right _ _ (sym c.check.ensures ∙ c.in_ok-c.was); m_len = search (rules, working_length) }

pub returns : goal.returns
unfolding step start_admission
returns c = rw (sym c.check.ensures ∙ c.in_ok-c.was) (starts_long _ _ _ _ c.if-m-lt-MEMORY_SIZE.false c.write_all.ensures)
