-- Document 01's cases 1 to 11, as one statement over the list of cases, proved by computation from the definitions.
-- Assumes nothing.
use Rattle.std.proofs.Common.{refl}
use Rattle.cases.proofs.Definitions.{definitions, ◌&◌}
use Rattle.cases.proofs.Computed.{all_hold}
use Rattle.cases.specs.Case.{AllHold}
use Rattle.cases.specs.Cases.{document_cases}

pub cases_hold : AllHold document_cases
unfolding definitions
cases_hold =
    all_hold document_cases
    ((refl, refl) & (refl, refl) & (refl, refl) & refl & refl & refl & refl & refl & refl & refl & refl & refl & refl & tt)
