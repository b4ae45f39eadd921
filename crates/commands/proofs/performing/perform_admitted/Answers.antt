-- `commands::performing::perform_admitted`: the call's own outcome over the first bytes of memory, and the line of its answer.
-- Assumes nothing.
use Rattle.std.proofs.Common.{rules}
use Rattle.commands.proofs.GivenLines.{area_kept, gave_own}
use Rattle.commands.proofs.performing.perform_admitted.Goals as goal

pub put_answer-requires : goal.put_answer-requires
put_answer-requires c =
    record {
      right = search rules;
      area_size_in_bounds = area_kept c.requires.area_size_in_bounds (search rules);
      longest_line_in_bounds = search rules;
    }

pub returns : goal.returns
returns c =
    let got = gave_own c.args.bytes.now c.args.area.now c.requires.checked c.call-answer.ensures.area_after c.call-answer.ensures.still_ready c.put_answer.ensures in
    record { own_gave = got.0; upper_bound = got.1.0; still_checked = got.1.1 }
