-- `layer::objects::status_admitted`: the call goes on, so it does its own part.
-- Assumes nothing.
use Rattle.std.proofs.Common.{refl, rules}
use Rattle.layer.specs.Promises.{status_read}
use Rattle.layer.proofs.GoesOn.{goes_reads}
use Rattle.layer.specs.Step.{status}
use Rattle.layer.proofs.objects.status_admitted.Goals as goal

pub returns : goal.returns
unfolding status_read
returns c = search (rules, goes_reads (status c.args.object) refl refl)
