-- `commands::performing::perform`: a start, a refusal and an admitted call each give what the command does, and its line.
-- Assumes nothing.
use Rattle.std.proofs.Common.{rules, sym, ◌∙◌}
use Rattle.commands.proofs.Performed.{admitted_checked}
use Rattle.commands.proofs.GivenLines.{admitted_lent, gave_start, gave_refused, gave_admitted}
use Rattle.commands.proofs.performing.perform.Goals as goal

pub returns-then-is_start : goal.returns-then-is_start
returns-then-is_start c =
    let got = gave_start c.args.checked c.args.bytes.now c.args.area.now c.args.m.now c.is_start.ensures c.if-is_start.true c.start-answer.ensures c.put_status.ensures c.requires.holds in
    record { effect_gave = got.0; end_bound = got.1.0; still_holds = got.1.1 }

pub perform_admitted-requires : goal.perform_admitted-requires
perform_admitted-requires c =
    record {
      checked = admitted_checked c.args.t.now c.in-Ok.c c.args.m.now c.fits.result _ c.admit.ensures c.in-Ok.is;
      area_size_in_bounds = admitted_lent c.args.command c.admit.ensures c.in-Ok.is c.fits.ensures;
      command_value = sym c.is_start.ensures ∙ c.if-is_start.false;
      longest_line_in_bounds = search rules;
    }

pub returns-in-Err : goal.returns-in-Err
returns-in-Err c =
    let got = gave_refused c.args.bytes.now c.args.area.now c.admit.ensures c.fits.ensures c.is_start.ensures c.if-is_start.false c.in-Err.is
    c.put_status-in-Err.ensures c.requires.holds in
    record { effect_gave = got.0; end_bound = got.1.0; still_holds = got.1.1 }

pub returns-in-Ok : goal.returns-in-Ok
returns-in-Ok c =
    let given = c.perform_admitted.ensures in
    let got = gave_admitted c.args.bytes.now c.args.area.now c.admit.ensures c.fits.ensures c.is_start.ensures c.if-is_start.false c.in-Ok.is
    (given.own_gave, (given.upper_bound, given.still_checked)) in
    record { effect_gave = got.0; end_bound = got.1.0; still_holds = got.1.1 }
