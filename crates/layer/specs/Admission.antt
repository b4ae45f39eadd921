-- Document 01, "What comes back": the order of refusals. 5 for the table, 6 for memory and area, 7 for a stopped layer; what a call
-- refuses itself comes after. Assumes nothing.
use Rattle.std.specs.Prelude.{Bool, true, ◌&&◌, List, ◌++◌, ◌≡◌, ℕ, ◌≤◌, leb, eqb, length, take, drop, Result, Err, Ok}
use Rattle.memory.specs.Search.{pick}
use Rattle.table.specs.declared.Counts.{Counts}
use Rattle.table.specs.declared.WrongRecord.{WrongRecord}
use Rattle.table.specs.Check.{check}
use Rattle.state.specs.Layout.{memory_size, running_at}
use Rattle.state.specs.Ranges.{in_range, Ready}
use Rattle.calls.specs.declared.Refusal.{Refusal}
use Rattle.calls.specs.declared.Refusal.TheVariants.{WrongTable, WrongMemory, Stopped}
use Rattle.calls.specs.Answers.{Outcome, outcome}

-- of the memory lent, the first 8,192 bytes are used
abbrev pub working_memory : List ℕ → List ℕ
working_memory m = take memory_size m

-- a call goes on with the counts of its table, or is refused before it looks at its own numbers
abbrev pub Admission : Type 0
Admission = Result Counts Refusal

-- over a right table and a memory that is long enough
abbrev pub admission_front : Counts → List ℕ → List ℕ → Admission
admission_front c t m = pick (in_range t c m) (pick (eqb (running_at m) 0) (Err Stopped) (Ok c)) (Err WrongMemory)

abbrev pub admission_of : Result Counts WrongRecord → List ℕ → List ℕ → Bool → Admission
admission_of (Ok c) t m fits = pick (leb memory_size (length m) && fits) (admission_front c t (working_memory m)) (Err WrongMemory)
admission_of (Err wrong) t m fits = Err WrongTable

-- whether a call over this table and memory goes on; `fits` is whether the request area is long enough
unfoldable pub admission : List ℕ → List ℕ → Bool → Admission
admission t m fits = admission_of (check t) t m fits

-- a start looks at the table and at the length of memory alone
abbrev pub start_admission_of : Result Counts WrongRecord → List ℕ → Admission
start_admission_of (Ok c) m = pick (leb memory_size (length m)) (Ok c) (Err WrongMemory)
start_admission_of (Err wrong) m = Err WrongTable

unfoldable pub start_admission : List ℕ → List ℕ → Admission
start_admission t m = start_admission_of (check t) m

-- what an admitted call may rely on: memory long enough, the table right, every stored number in range, the area long enough
pub record Open (t : List ℕ) (c : Counts) (m : List ℕ) (fits : Bool) : Type 0 where
  pub long : memory_size ≤ length m
  pub exact : memory_size ≡ length (working_memory m)
  pub ready : Ready t c (working_memory m)
  pub area : fits ≡ true

-- what `admit` answers
pub record Admits (t m : List ℕ) (fits : Bool) (a : Admission) : Type 0 where
  pub same : a ≡ admission t m fits
  pub opens : (c : Counts) → a ≡ Ok c → Open t c m fits

-- a call that goes on works on the first 8,192 bytes, and the rest stays
abbrev pub on_working_memory : (List ℕ → Outcome) → List ℕ → Outcome
on_working_memory call m =
    outcome (call (working_memory m)).answer ((call (working_memory m)).memory ++ drop memory_size m) (call (working_memory m)).area

-- a refused call leaves all lent bytes
abbrev pub if_admitted : Admission → List ℕ → List ℕ → (Counts → List ℕ → Outcome) → Outcome
if_admitted (Ok c) m area call = on_working_memory (call c) m
if_admitted (Err r) m area call = outcome (Err r) m area
