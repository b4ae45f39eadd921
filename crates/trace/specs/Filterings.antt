-- W-203: which filterings of an object passed, read off a list of calls and groups; of any N in a row of an object with filter 14 and
-- period N exactly one did.
-- Assumes nothing.
use Rattle.std.specs.Prelude.{Bool, true, false, ◌&&◌, ◌||◌, List, [], ◌∷◌, ◌++◌, ◌≡◌, ℕ, zero, suc, ◌+◌, ◌%◌, ◌<◌, eqb, length}
use Rattle.memory.specs.Search.{pick}
use Rattle.table.specs.declared.Counts.{Counts}
use Rattle.table.specs.Records.{sending, counts, object_record}
use Rattle.state.specs.declared.ObjectState.{ObjectState}
use Rattle.state.specs.Layout.{object_state}
use Rattle.message.specs.Objects.{object, passes_filter, after_filter, delivered}
use Rattle.calls.specs.Answers.{number_of}
use Rattle.layer.specs.Admission.{working_memory}
use Rattle.layer.specs.Step.{Call, start, stop, send, initialise, receive, status, marks, clear_marks, start_periodic, stop_periodic, indication, confirm, tick, step}
use Rattle.group.specs.Groups.{group_step}
use Rattle.trace.specs.Book.{sends, opened, keeps}
use Rattle.trace.specs.Actions.{Action, single, group, leaves, group_sends, memory_after_all, book_after_all}
use Rattle.trace.specs.Demand3.{Typed, ActionsTyped, done}
use Rattle.trace.specs.RoundTrip.{reading_in}

-- ---- the filterings of object i, in the order of the calls: whether each passed

-- the value of an object that a call filters, if any
pub data Given : Type 0 where
  no_value : Given
  a_value : (v : ℕ) → Given

-- a send filters its own object's and that of each receiver inside, a good indication that of each object of its I-PDU
abbrev pub filtered_value : List ℕ → Counts → ℕ → Call → Given
filtered_value t c i (send j v area) = pick (eqb i j || eqb (object_record t c.ipdus i).sender j) (a_value v) no_value
filtered_value t c i (indication k good bytes) =
    pick (good && eqb (object_record t c.ipdus i).ipdu k) (a_value (reading_in (object_record t c.ipdus i) bytes)) no_value
filtered_value t c i start = no_value
filtered_value t c i stop = no_value
filtered_value t c i (initialise j v) = no_value
filtered_value t c i (receive j) = no_value
filtered_value t c i (status j) = no_value
filtered_value t c i (marks j) = no_value
filtered_value t c i (clear_marks j) = no_value
filtered_value t c i start_periodic = no_value
filtered_value t c i stop_periodic = no_value
filtered_value t c i (confirm k good) = no_value
filtered_value t c i (tick area) = no_value

-- it is judged by the old value and the count that the object then has
abbrev pub filter_result : List ℕ → Counts → ℕ → List ℕ → Given → List Bool
filter_result t c i m no_value = []
filter_result t c i m (a_value v) = passes_filter (object t c i) v (object_state m i) ∷ []

-- a refused call filters nothing
abbrev pub filtered_by : List ℕ → ℕ → Call → List ℕ → List Bool
filtered_by t i call m = pick (done (step t call m)) (filter_result t (counts t) i (working_memory m) (filtered_value t (counts t) i call)) []

abbrev pub filtered_in : List ℕ → ℕ → List Call → List ℕ → List Bool
filtered_in t i [] m = []
filtered_in t i (call ∷ calls) m = filtered_by t i call m ++ filtered_in t i calls (step t call m).memory

-- a group filters as its sends do, a refused one nothing
abbrev pub action_filters : List ℕ → ℕ → Action → List ℕ → List Bool
action_filters t i (single call) m = filtered_by t i call m
action_filters t i (group g) m = pick (eqb (number_of (group_step t g m).answer) 0) (filtered_in t i (group_sends g) m) []

abbrev pub filterings : List ℕ → ℕ → List Action → List ℕ → List Bool
filterings t i [] m = []
filterings t i (x ∷ xs) m = action_filters t i x m ++ filterings t i xs (leaves t x m)

-- ---- that this is what the layer does

-- the row of the object that a filtering of v leaves: of a send object, or of one that the value is delivered to
abbrev pub filtered_row : List ℕ → Counts → ℕ → ℕ → ObjectState → ObjectState
filtered_row t c i v s =
    pick (eqb (object_record t c.ipdus i).kind sending) (after_filter (passes_filter (object t c i) v s) (object t c i) v s)
    (delivered (passes_filter (object t c i) v s) (object t c i) v s)

-- a call that filters a value of the object leaves that row; one that filters none, but for a start, leaves its count
pub record CallFilters (t : List ℕ) (i : ℕ) (call : Call) (m : List ℕ) : Type 0 where
  pub one : (v : ℕ) → done (step t call m) ≡ true → filtered_value t (counts t) i call ≡ a_value v
      → object_state (working_memory (step t call m).memory) i ≡ filtered_row t (counts t) i v (object_state (working_memory m) i)
  pub none : (call ≡ start → ⊥) → filtered_by t i call m ≡ []
      → (object_state (working_memory (step t call m).memory) i).occurrence ≡ (object_state (working_memory m) i).occurrence

-- so it is of every call after an accepted start and any list, and of every object
abbrev pub AllFilter : List ℕ → Type 0
AllFilter t =
    (xs : List Action) → ActionsTyped xs → (m : List ℕ) → done (step t start m) ≡ true → (call : Call) → Typed call
    → (i : ℕ) → i < (counts t).objects → CallFilters t i call (memory_after_all t (single start ∷ xs) m)

-- of a send object it is the book's judgement: a value that is sent makes an entry exactly where its filtering passes
abbrev pub FiltersKeep : List ℕ → Type 0
FiltersKeep t =
    (xs : List Action) → ActionsTyped xs → (m : List ℕ) → done (step t start m) ≡ true → (i v : ℕ) → sends t (counts t) i ≡ true
    → passes_filter (object t (counts t) i) v (object_state (working_memory (memory_after_all t (single start ∷ xs) m)) i)
    ≡ keeps t (counts t) (book_after_all t (counts t) (opened t (counts t)) xs) i v

-- ---- the claim

-- how many passed
abbrev pub passed : List Bool → ℕ
passed [] = 0
passed (true ∷ bs) = suc (passed bs)
passed (false ∷ bs) = passed bs

-- no start
abbrev pub NoStart : List Action → Type 0
NoStart [] = Unit {0}
NoStart (x ∷ xs) = (x ≡ single start → ⊥) × NoStart xs

-- an object of the table, sent or received, with filter 14; its period and offset
pub record Fourteen (t : List ℕ) (i : ℕ) : Type 0 where
  pub low : i < (counts t).objects
  pub filter : (object_record t (counts t).ipdus i).filter ≡ 14

abbrev pub period_of : List ℕ → ℕ → ℕ
period_of t i = (object_record t (counts t).ipdus i).first

abbrev pub offset_of : List ℕ → ℕ → ℕ
offset_of t i = (object_record t (counts t).ipdus i).second

-- an accepted start, then any list, then one with no start in it: of its filterings of the object any N in a row, N the period, have
-- exactly one that passed
abbrev pub OneInN : List ℕ → Type 0
OneInN t =
    (xs ys : List Action) → ActionsTyped xs → ActionsTyped ys → NoStart ys → (m : List ℕ) → done (step t start m) ≡ true
    → (i : ℕ) → Fourteen t i → (before row after : List Bool)
    → filterings t i ys (memory_after_all t (single start ∷ xs) m) ≡ before ++ (row ++ after) → length row ≡ period_of t i → passed row ≡ 1

-- and which: numbered from the start on, with 0, that with number n passed where n mod N is the offset
abbrev pub turns : (period offset n : ℕ) → ℕ → List Bool
turns period offset n zero = []
turns period offset n (suc more) = eqb (n % period) offset ∷ turns period offset (n + 1) more

abbrev pub InTurn : List ℕ → Type 0
InTurn t =
    (xs : List Action) → ActionsTyped xs → NoStart xs → (m : List ℕ) → done (step t start m) ≡ true → (i : ℕ) → Fourteen t i
    → filterings t i xs (step t start m).memory ≡ turns (period_of t i) (offset_of t i) 0 (length (filterings t i xs (step t start m).memory))
