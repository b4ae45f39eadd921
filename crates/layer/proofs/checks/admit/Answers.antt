-- `layer::checks::admit`: what each check found tells the answer.
-- Assumes nothing.
use Rattle.std.proofs.Common.{sym, ◌∙◌, le-leb}
use Rattle.std.proofs.lemmas.Result.{err_from_is_err_and}
use borrow.Author.Tests.{lt-leb}
use Rattle.memory.specs.Bytes.{Bytes}
use Rattle.state.specs.Layout.{running_at}
use Rattle.layer.proofs.Admitted.{wrong_table_refused, short_refused, range_refused, stopped_refused, running_admitted}
use Rattle.table.proofs.Accepted.{accepted_right}
use Rattle.layer.proofs.checks.admit.Goals.{then-m-lt-MEMORY_SIZE-via-then-m-lt-MEMORY_SIZE, then-m-lt-MEMORY_SIZE-via-else-m-lt-MEMORY_SIZE+then-not-fits}
use Rattle.layer.proofs.checks.admit.Goals as goal

pub returns-in_err-c : goal.returns-in_err-c
returns-in_err-c c =
    let p = err_from_is_err_and c.from_residual.result c.from_residual.ensures.1 in
    rw (p.1, p.2) (wrong_table_refused (sym c.check.ensures ∙ c.in_err-c.was))

pub returns-then-m-lt-MEMORY_SIZE : goal.returns-then-m-lt-MEMORY_SIZE
returns-then-m-lt-MEMORY_SIZE c =
    let accepted = sym c.check.ensures ∙ c.in_ok-c.was in
    short_refused accepted (elim c.then-m-lt-MEMORY_SIZE.branch [
      | then-m-lt-MEMORY_SIZE-via-then-m-lt-MEMORY_SIZE w ↦ rw (lt-leb _ _ w.if-m-lt-MEMORY_SIZE.true)
      | then-m-lt-MEMORY_SIZE-via-else-m-lt-MEMORY_SIZE+then-not-fits w ↦ rw (le-leb _ _ w.if-m-lt-MEMORY_SIZE.false, w.if-not-fits.true)
    ])

pub in_range-requires-clause-right : goal.in_range-requires-clause-right
in_range-requires-clause-right c = accepted_right _ _ (sym c.check.ensures ∙ c.in_ok-c.was)

pub returns-then-not-in_range : goal.returns-then-not-in_range
returns-then-not-in_range c =
    let accepted = sym c.check.ensures ∙ c.in_ok-c.was in
    range_refused accepted (rw (le-leb _ _ c.if-m-lt-MEMORY_SIZE.false, c.if-not-fits.false)) (sym c.in_range.ensures ∙ c.if-not-in_range.true)

pub returns-then-read8-eq0 : goal.returns-then-read8-eq0
unfolding running_at
returns-then-read8-eq0 c =
    let accepted = sym c.check.ensures ∙ c.in_ok-c.was in
    stopped_refused accepted (rw (le-leb _ _ c.if-m-lt-MEMORY_SIZE.false, c.if-not-fits.false)) (sym c.in_range.ensures ∙ c.if-not-in_range.false)
    (sym c.read8.ensures.0 ∙ c.if-read8-eq0.true)

pub returns : goal.returns
unfolding running_at
returns c =
    let accepted = sym c.check.ensures ∙ c.in_ok-c.was in
    let table : Bytes c.args.t.now = λ i. (c.type_inv.t i).fits in
    let memory : Bytes c.args.m.now = λ i. (c.type_inv.m i).fits in
    running_admitted accepted (rw (le-leb _ _ c.if-m-lt-MEMORY_SIZE.false, c.if-not-fits.false)) (sym c.in_range.ensures ∙ c.if-not-in_range.false)
    (λ e. c.if-read8-eq0.false (c.read8.ensures.0 ∙ e)) table memory
