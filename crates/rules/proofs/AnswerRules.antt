-- Document 01's rules of what comes back, proved by computation from the definitions. Assumes nothing.
use Rattle.std.proofs.Common.{refl}
use Rattle.cases.proofs.Definitions.{definitions, ◌&◌}
use Rattle.cases.proofs.Computed.{all_hold}
use Rattle.cases.specs.Case.{AllHold}
use Rattle.rules.specs.AnswerRules.{answer_rules}

pub answers_hold : AllHold answer_rules
unfolding definitions
answers_hold =
    all_hold answer_rules
    (refl & refl & refl & refl & refl & tt)
