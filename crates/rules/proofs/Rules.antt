-- The rules of document 01 that its own cases leave open hold: one statement over the list. Each section is computed by itself, since
-- one declaration may take only so many steps. Assumes nothing.
use Rattle.std.proofs.Common.{List, [], ◌∷◌, ◌++◌}
use Rattle.cases.specs.Case.{Case, AllHold}
use Rattle.rules.specs.Rules.{sections, cases_of, rules}
use Rattle.cases.proofs.Definitions.{◌&◌}
use Rattle.cases.proofs.FilterRules.{filters_hold}
use Rattle.rules.proofs.CallRules.{sends_hold, receives_hold}
use Rattle.rules.proofs.TimingRules.{requests_hold, timing_holds}
use Rattle.rules.proofs.AnswerRules.{answers_hold}
use Rattle.cases.proofs.CheckRules.{headers_hold, ipdus_hold, objects_hold, filter_constants_hold, tables_hold}

both_hold : (cs ds : List Case) → AllHold cs → AllHold ds → AllHold (cs ++ ds)
both_hold [] ds first second = second
both_hold (c ∷ cs) ds first second = (first.0, both_hold cs ds first.1 second)

abbrev EachHolds : List (List Case) → Type 0
EachHolds [] = Unit {0}
EachHolds (cs ∷ css) = AllHold cs × EachHolds css

each_holds : (css : List (List Case)) → EachHolds css → AllHold (cases_of css)
each_holds [] hold = tt
each_holds (cs ∷ css) hold = both_hold cs (cases_of css) hold.0 (each_holds css hold.1)

pub rules_hold : AllHold rules
rules_hold =
    each_holds sections
    (headers_hold & ipdus_hold & objects_hold & filter_constants_hold & tables_hold
    & filters_hold
    & sends_hold & receives_hold
    & requests_hold & timing_holds
    & answers_hold & tt)
