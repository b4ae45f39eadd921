-- Document 01's rules of the calls but for their timing, proved by computation from the definitions. Assumes nothing.
use Rattle.std.proofs.Common.{refl}
use Rattle.cases.proofs.Definitions.{definitions, ◌&◌}
use Rattle.cases.proofs.Computed.{all_hold}
use Rattle.cases.specs.Case.{AllHold}
use Rattle.rules.specs.CallRules.{send_rules, receive_rules}

pub sends_hold : AllHold send_rules
unfolding definitions
sends_hold =
    all_hold send_rules
    ((refl, refl) & (refl, refl) & (refl, refl) & (refl, refl) & refl & refl & refl & refl & refl & refl & refl & tt)

pub receives_hold : AllHold receive_rules
unfolding definitions
receives_hold =
    all_hold receive_rules
    (refl & refl & refl & refl & refl & tt)
