-- W-202: lists whose members are single calls or groups, and the single calls that such a list stands for: of a group its sends, of a
-- refused one none. Assumes nothing.
use Rattle.std.specs.Prelude.{Bool, true, not, ◌&&◌, List, [], ◌∷◌, ◌++◌, ℕ, leb, length}
use Rattle.memory.specs.Search.{pick}
use Rattle.table.specs.declared.Counts.{Counts}
use Rattle.state.specs.Layout.{area_size}
use Rattle.calls.specs.Answers.{Answer}
use Rattle.layer.specs.Step.{Call, send, long_enough, describe, step}
use Rattle.group.specs.declared.Pair.{Pair}
use Rattle.group.specs.Groups.{Group, well_formed, group_step}
use Rattle.trace.specs.Book.{Book, advance, book_after}

pub data Action : Type 0 where
  single : (call : Call) → Action
  group : (given : Group) → Action

-- ---- what an action does

abbrev pub answer_of : List ℕ → Action → List ℕ → Answer
answer_of t (single call) m = (step t call m).answer
answer_of t (group g) m = (group_step t g m).answer

abbrev pub leaves : List ℕ → Action → List ℕ → List ℕ
leaves t (single call) m = (step t call m).memory
leaves t (group g) m = (group_step t g m).memory

-- whether the layer has to run for it
abbrev pub asks_running : Action → Bool
asks_running (single call) = (describe call).running
asks_running (group g) = true

-- its request area, where it is lent one, is long enough
abbrev pub area_fits : Action → Bool
area_fits (single call) = long_enough (describe call).lent
area_fits (group g) = leb area_size (length g.area)

-- ---- a group as its sends

-- each is lent the group's request area; what that holds before a send changes no answer, no frame and no byte of memory
abbrev pub sends_of : List Pair → List ℕ → List Call
sends_of [] area = []
sends_of (p ∷ ps) area = send p.object p.value area ∷ sends_of ps area

abbrev pub group_sends : Group → List Call
group_sends g = sends_of g.pairs.list g.area

-- ---- the book

-- by what it is given and whether the layer is stopped, the group is not refused
abbrev pub accepts_group : Book → Group → Bool
accepts_group b g = leb area_size (length g.area) && not b.stopped && well_formed g

-- a group is entered send by send; a refused one leaves the book alone
abbrev pub advance_by : List ℕ → Counts → Book → Action → Book
advance_by t c b (single call) = advance t c b call
advance_by t c b (group g) = pick (accepts_group b g) (book_after t c b (group_sends g)) b

-- the single calls that a list of actions stands for; none for a refused group
abbrev pub expanded : List ℕ → Counts → Book → List Action → List Call
expanded t c b [] = []
expanded t c b (single call ∷ xs) = call ∷ expanded t c (advance t c b call) xs
expanded t c b (group g ∷ xs) = pick (accepts_group b g) (group_sends g) [] ++ expanded t c (advance_by t c b (group g)) xs

-- ---- lists

abbrev pub memory_after_all : List ℕ → List Action → List ℕ → List ℕ
memory_after_all t [] m = m
memory_after_all t (x ∷ xs) m = memory_after_all t xs (leaves t x m)

abbrev pub book_after_all : List ℕ → Counts → Book → List Action → Book
book_after_all t c b [] = b
book_after_all t c b (x ∷ xs) = book_after_all t c (advance_by t c b x) xs
