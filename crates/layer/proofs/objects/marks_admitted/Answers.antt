-- `layer::objects::marks_admitted`: the call goes on, so it does its own part.
-- Assumes nothing.
use Rattle.std.proofs.Common.{refl, rules}
use Rattle.layer.specs.Promises.{marks_read}
use Rattle.layer.proofs.GoesOn.{goes_reads}
use Rattle.layer.specs.Step.{marks}
use Rattle.layer.proofs.objects.marks_admitted.Goals as goal

pub returns : goal.returns
unfolding marks_read
returns c = search (rules, goes_reads (marks c.args.object) refl refl)
