-- `layer::objects::receive_admitted`: the call goes on, so it does its own part.
-- Assumes nothing.
use Rattle.std.proofs.Common.{refl, rules}
use Rattle.layer.specs.Promises.{received}
use Rattle.layer.proofs.GoesOn.{goes_gives}
use Rattle.layer.specs.Step.{receive}
use Rattle.layer.proofs.objects.receive_admitted.Goals as goal

pub returns : goal.returns
unfolding received
returns c = search (rules, goes_gives (receive c.args.object) refl refl)
