-- The rules of document 01 that its own cases leave open, section by section, as one list of proved cases. Assumes nothing.
use Rattle.std.specs.Prelude.{List, [], ◌∷◌, ◌++◌}
use Rattle.cases.specs.Case.{Case}
use Rattle.cases.specs.FilterRules.{filter_rules}
use Rattle.rules.specs.CallRules.{send_rules, receive_rules}
use Rattle.rules.specs.TimingRules.{request_rules, timing_rules}
use Rattle.rules.specs.AnswerRules.{answer_rules}
use Rattle.cases.specs.CheckRules.{header_rules, ipdu_rules, object_rules, filter_constant_rules, table_rules}

-- "The table"; "Filters"; "Bits" and "Calls"; "Calls", the rules of time; "What comes back"
abbrev pub sections : List (List Case)
sections =
    header_rules ∷ ipdu_rules ∷ object_rules ∷ filter_constant_rules ∷ table_rules
    ∷ filter_rules
    ∷ send_rules ∷ receive_rules
    ∷ request_rules ∷ timing_rules
    ∷ answer_rules ∷ []

abbrev pub cases_of : List (List Case) → List Case
cases_of [] = []
cases_of (cs ∷ css) = cs ++ cases_of css

abbrev pub rules : List Case
rules = cases_of sections
