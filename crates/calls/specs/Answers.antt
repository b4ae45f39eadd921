-- Document 01, "What comes back": what a call answers, the number of an answer, what it returns, and what a call gives.
-- Assumes nothing.
use Rattle.std.specs.Prelude.{List, ℕ, Result, Ok, Err}
use Rattle.calls.specs.declared.Success.{Success}
use Rattle.calls.specs.declared.Success.TheVariants.{Done, Limit}
use Rattle.calls.specs.declared.Refusal.{Refusal}
use Rattle.calls.specs.declared.Refusal.TheVariants.{WrongId, WrongLength, NoMessage, WrongTable, WrongMemory, Stopped, NotRequested}

-- a value, with the number for a value lost where one was; or why the call is refused
abbrev pub Answer : Type 0
Answer = Result Success Refusal

abbrev pub done_with : ℕ → Answer
done_with value = Ok (Done value)

abbrev pub limit_with : ℕ → Answer
limit_with value = Ok (Limit value)

-- the paper's number of an answer
abbrev pub number_of : Answer → ℕ
number_of (Ok (Done value)) = 0
number_of (Err WrongId) = 1
number_of (Err WrongLength) = 2
number_of (Ok (Limit value)) = 3
number_of (Err NoMessage) = 4
number_of (Err WrongTable) = 5
number_of (Err WrongMemory) = 6
number_of (Err Stopped) = 7
number_of (Err NotRequested) = 8

-- what is returned with it
abbrev pub value_of : Answer → ℕ
value_of (Ok (Done value)) = value
value_of (Ok (Limit value)) = value
value_of (Err refusal) = 0

-- what a call gives: its answer, working memory, and the request area, [] for a call that is lent none
pub record Outcome : Type 0 where
  pub answer : Answer
  pub memory : List ℕ
  pub area : List ℕ

abbrev pub outcome : Answer → List ℕ → List ℕ → Outcome
outcome a m area = record { answer = a; memory = m; area = area }
