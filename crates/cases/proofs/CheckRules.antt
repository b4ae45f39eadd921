-- Document 01's rules of the check, proved by computation from the definitions. Assumes nothing.
use Rattle.std.proofs.Common.{refl}
use Rattle.cases.proofs.Definitions.{definitions, ◌&◌}
use Rattle.cases.specs.Case.{AllHold}
use Rattle.cases.specs.CheckRules.{header_rules, ipdu_rules, object_rules, filter_constant_rules, table_rules}

pub headers_hold : AllHold header_rules
unfolding definitions
headers_hold =
    refl & refl & refl & refl & refl & refl & refl & refl & refl & refl & refl & refl & refl & refl & refl & refl & refl & refl & refl & refl
    & refl & refl & refl & refl & refl & refl & refl & refl & refl & refl & tt

pub ipdus_hold : AllHold ipdu_rules
unfolding definitions
ipdus_hold =
    refl & refl & refl & refl & refl & refl & refl & refl & refl & refl & refl & refl & refl & refl & refl & refl & refl & refl & refl & refl
    & refl & refl & refl & refl & refl & refl & refl & refl & refl & refl & refl & refl & refl & tt

pub objects_hold : AllHold object_rules
unfolding definitions
objects_hold =
    refl & refl & refl & refl & refl & refl & refl & refl & refl & refl & refl & refl & refl & refl & refl & refl & refl & refl & refl & refl
    & refl & refl & refl & refl & refl & refl & refl & refl & refl & refl & refl & refl & refl & refl & refl & refl & refl & refl & refl & refl
    & refl & refl & refl & refl & refl & refl & refl & tt

pub filter_constants_hold : AllHold filter_constant_rules
unfolding definitions
filter_constants_hold =
    refl & refl & refl & refl & refl & refl & refl & refl & refl & refl & refl & refl & refl & refl & refl & refl & refl & refl & refl & refl
    & refl & refl & refl & refl & refl & refl & refl & refl & refl & refl & refl & refl & refl & tt

pub tables_hold : AllHold table_rules
unfolding definitions
tables_hold =
    refl & refl & refl & refl & refl & refl & refl & refl & refl & refl & refl & refl & refl & refl & refl & refl & refl & refl & refl & refl
    & refl & refl & tt
