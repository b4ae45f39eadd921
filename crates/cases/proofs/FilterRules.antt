-- Document 01's rules of filters, proved by computation from the definitions. Assumes nothing.
use Rattle.std.proofs.Common.{refl}
use Rattle.cases.proofs.Definitions.{definitions, ◌&◌}
use Rattle.cases.proofs.Computed.{all_hold}
use Rattle.cases.specs.Case.{AllHold}
use Rattle.cases.specs.FilterRules.{filter_rules}

pub filters_hold : AllHold filter_rules
unfolding definitions
filters_hold =
    all_hold filter_rules
    (refl & refl & refl & refl & refl & refl & refl & refl & refl & refl & refl & refl & refl & refl & refl & refl & refl & refl & refl & refl
    & refl & refl & refl & refl & refl & refl & refl & refl & refl & refl & refl & refl & refl & refl & refl & tt)
