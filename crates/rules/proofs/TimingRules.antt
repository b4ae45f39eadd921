-- Document 01's rules of time, proved by computation from the definitions. Assumes nothing.
use Rattle.std.proofs.Common.{refl}
use Rattle.cases.proofs.Definitions.{definitions, ◌&◌}
use Rattle.cases.proofs.Computed.{all_hold}
use Rattle.cases.specs.Case.{AllHold}
use Rattle.rules.specs.TimingRules.{request_rules, timing_rules}

pub requests_hold : AllHold request_rules
unfolding definitions
requests_hold =
    all_hold request_rules
    (refl & refl & refl & refl & refl & refl & tt)

pub timing_holds : AllHold timing_rules
unfolding definitions
timing_holds =
    all_hold timing_rules
    (refl & refl & refl & refl & refl & refl & tt)
