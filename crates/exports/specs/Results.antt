-- A call of the layer at the C boundary: document 01's number, what is returned with it, and the lent bytes.
-- Assumes nothing.
use Rattle.std.specs.Prelude.{Bool, not, List, ℕ, eqb}
use Rattle.calls.specs.Answers.{Outcome, number_of, value_of}
use Rattle.group.specs.Groups.{GroupOutcome}
use Rattle.exports.specs.declared.Answer.{Answer}

pub record Result : Type 0 where
  pub answer : Answer
  pub memory : List ℕ
  pub area : List ℕ

abbrev pub call_result : Answer → List ℕ → List ℕ → Result
call_result a m area = record { answer = a; memory = m; area = area }

-- the outcome of a call
abbrev pub result_of : Outcome → Result
result_of o = call_result (record { number = number_of o.answer; value = value_of o.answer }) o.memory o.area

-- a group: its status list too
pub record GroupResult : Type 0 where
  pub answer : Answer
  pub memory : List ℕ
  pub area : List ℕ
  pub statuses : List ℕ

abbrev pub group_result : Answer → List ℕ → List ℕ → List ℕ → GroupResult
group_result a m area statuses = record { answer = a; memory = m; area = area; statuses = statuses }

abbrev pub group_result_of : GroupOutcome → GroupResult
group_result_of o = group_result (record { number = number_of o.answer; value = value_of o.answer }) o.memory o.area o.statuses

-- 0 is not good, anything else good
abbrev pub is_good : ℕ → Bool
is_good n = not (eqb n 0)
