-- Demand 1 over calls and lists of calls: what a refused call leaves, when 6 is answered, and memory that was never started.
-- Assumes nothing.
use Rattle.std.specs.Prelude.{true, List, [], ◌∷◌, ◌⊎◌, ◌≡◌, ℕ}
use Rattle.calls.specs.Answers.{Answer}
use Rattle.calls.specs.Answers.{Outcome, number_of}
use Rattle.layer.specs.Step.{Call, receive}
use Rattle.group.specs.Groups.{Group, GroupOutcome}
use Rattle.trace.specs.Actions.{Action, answer_of, leaves, area_fits}

-- ---- a refused call leaves all lent bytes

-- all lent bytes are as found
pub record Unchanged (m lent : List ℕ) (o : Outcome) : Type 0 where
  pub memory : o.memory ≡ m
  pub area : o.area ≡ lent

-- any number but 0, and but the 3 of a receive
abbrev pub IsRefused : Call → Outcome → Type 0
IsRefused call o = (number_of o.answer ≡ 0 → ⊥) × (number_of o.answer ≡ 3 → (i : ℕ) → call ≡ receive i → ⊥)

-- the same of a group, whose status list is lent too
pub record GroupUnchanged (found : List ℕ) (g : Group) (o : GroupOutcome) : Type 0 where
  pub memory : o.memory ≡ found
  pub area : o.area ≡ g.area
  pub statuses : o.statuses ≡ g.statuses

-- ---- 6 for a range is never answered after a start

-- no action of the list answers 6, but for a request area that is too short
abbrev pub Never6 : List ℕ → List Action → List ℕ → Type 0
Never6 t [] m = Unit {0}
Never6 t (x ∷ xs) m = (area_fits x ≡ true → number_of (answer_of t x m) ≡ 6 → ⊥) × Never6 t xs (leaves t x m)

-- ---- a layer that was never started does not run

-- refused before anything else is looked at: 5 for the table, 6 for memory, area or a range, 7 for a stopped layer
abbrev pub NotAdmitted : Answer → Type 0
NotAdmitted a = (number_of a ≡ 5) ⊎ ((number_of a ≡ 6) ⊎ (number_of a ≡ 7))
