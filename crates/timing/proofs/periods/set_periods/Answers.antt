-- `timing::periods::set_periods`: the invariant is the turns of the I-PDUs passed; those without a period change nothing.
-- Assumes nothing.
use Rattle.std.proofs.Common.{rules, ◌≡◌, refl}
use Rattle.timing.specs.Periods.{set_periods}
use Rattle.timing.proofs.PeriodTurn.{first_turn, next_turn}
use Rattle.timing.proofs.periods.set_periods.Goals as goal

pub loop-k-init : goal.loop-k-init
unfolding set_periods
loop-k-init c = (search rules, search (rules, first_turn), refl)

pub loop-k-preserved : goal.loop-k-preserved
unfolding set_periods
loop-k-preserved c = (search rules, search (rules, next_turn), search rules)

pub returns : goal.returns
unfolding set_periods
returns c =
    let all : c.loop-k.k ≡ c.args.c.ipdus = search rules in
    rw all at c.loop-k.invariant.1
