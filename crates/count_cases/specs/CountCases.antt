-- W-203 by examples: 300 filterings of each of three objects with period 3, and stored counts in and out of their range.
-- Assumes nothing.
use Rattle.std.specs.Prelude.{Bool, true, false, List, [], ◌∷◌, ◌++◌, ◌≡◌, ℕ, zero, suc, ◌+◌, length, get_or, replicate}
use Rattle.memory.specs.Bytes.{replaced}
use Rattle.state.specs.Layout.{memory_size, object_row}
use Rattle.calls.specs.Answers.{number_of}
use Rattle.layer.specs.Step.{start, send, initialise, marks, clear_marks, indication, confirm, step}
use Rattle.group.specs.Pairs as given
use Rattle.group.specs.Pairs.{in_records}
use Rattle.group.specs.Groups.{group_of}
use Rattle.cases.specs.Case.{table_of, send_ipdu, receive_ipdu, object_bytes, area}
use Rattle.trace.specs.Actions.{Action, single, group}
use Rattle.trace.specs.Filterings.{filterings, passed}

-- object 0 is sent and 1 receives what it sends, 2 is received from the bus: filter 14, period 3, offsets 0, 1 and 2, all values 0; object 3
-- is sent and has filter 0
abbrev pub table : List ℕ
table =
    table_of (send_ipdu 0 0 0 0 10 ∷ receive_ipdu 0 0 ∷ [])
    (object_bytes 1 0 255 13 12 0 0 0 14 0 3 0
    ∷ object_bytes 2 255 0 0 32 0 0 0 14 0 3 1
    ∷ object_bytes 2 1 255 0 8 0 0 0 14 0 3 2
    ∷ object_bytes 1 255 255 0 32 0 0 0 0 0 0 0
    ∷ [])

-- memory that held something else, started
abbrev pub begun : List ℕ
begun = (step table start (replicate memory_size 165)).memory

abbrev pub frame : Action
frame = single (indication 1 true (0 ∷ 0 ∷ 0 ∷ 0 ∷ []))

-- three filterings of 0, 1 and 2: between them an initialise, a send that is refused, a confirm; a group that names object 0 twice
abbrev pub round : List Action
round =
    single (send 0 0 area)
    ∷ single (confirm 0 true)
    ∷ single (initialise 0 0)
    ∷ single (send 0 0 [])
    ∷ group (group_of (in_records (given.pair 0 0 ∷ given.pair 0 0 ∷ [])) area (9 ∷ 9 ∷ []))
    ∷ frame ∷ frame ∷ frame
    ∷ single (clear_marks 0)
    ∷ single (clear_marks 1)
    ∷ single (clear_marks 2)
    ∷ []

abbrev pub rounds : ℕ → List Action
rounds zero = []
rounds (suc n) = round ++ rounds n

-- of 300 filterings 100 passed; whether the 255th to 258th did
pub record Filters300 (i : ℕ) (around : List Bool) : Type 0 where
  pub many : length (filterings table i (rounds 100) begun) ≡ 300
  pub passing : passed (filterings table i (rounds 100) begun) ≡ 100
  pub late : (get_or (filterings table i (rounds 100) begun) 254 false ∷ get_or (filterings table i (rounds 100) begun) 255 false
      ∷ get_or (filterings table i (rounds 100) begun) 256 false ∷ get_or (filterings table i (rounds 100) begun) 257 false ∷ []) ≡ around

-- ---- stored counts

-- what a call answers where an object's stored count is n
abbrev pub answered_with : (i n : ℕ) → ℕ
answered_with i n = number_of (step table (marks 0) (replaced (object_row i + 8) (n ∷ []) begun)).answer

-- period 3 has counts 0 to 2; with another filter the count is 0
abbrev pub count_ranges : List ℕ
count_ranges = answered_with 0 2 ∷ answered_with 0 3 ∷ answered_with 2 2 ∷ answered_with 2 255 ∷ answered_with 3 0 ∷ answered_with 3 1 ∷ []
