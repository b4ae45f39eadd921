-- `layer::objects::clear_marks_admitted`: the call goes on, so it does its own part.
-- Assumes nothing.
use Rattle.std.proofs.Common.{refl, rules}
use Rattle.layer.specs.Promises.{marks_cleared}
use Rattle.layer.proofs.GoesOn.{goes_gives}
use Rattle.layer.specs.Step.{clear_marks}
use Rattle.layer.proofs.objects.clear_marks_admitted.Goals as goal

pub returns : goal.returns
unfolding marks_cleared
returns c = search (rules, goes_gives (clear_marks c.args.object) refl refl)
