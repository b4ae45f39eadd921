-- A forwarded call: its answer as a number and a value.
-- Assumes nothing.
use Rattle.std.proofs.Common.{List, ◌≡◌, ap, ℕ}
use Rattle.calls.specs.Answers as calls
use Rattle.calls.specs.Answers.{Outcome, outcome, number_of, value_of}
use Rattle.group.specs.Groups.{GroupOutcome, group_outcome}
use Rattle.exports.specs.declared.Answer.{Answer}
use Rattle.exports.specs.Results.{call_result, result_of, group_result, group_result_of}

pub forwards : (a : calls.Answer) {r : Answer} (m area : List ℕ) (o : Outcome) → r ≡ record { number = number_of a; value = value_of a }
    → outcome a m area ≡ o → call_result r m area ≡ result_of o
forwards a m area o e f = rw e (ap result_of f)

pub forwards_group : (a : calls.Answer) {r : Answer} (m area statuses : List ℕ) (o : GroupOutcome) → r ≡ record { number = number_of a; value = value_of a }
    → group_outcome a m area statuses ≡ o → group_result r m area statuses ≡ group_result_of o
forwards_group a m area statuses o e f = rw e (ap group_result_of f)
