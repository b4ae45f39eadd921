-- Begins and drains of a journey sheet (W-206): the single calls that a drain makes, and when two begins or two drains give the same.
-- Assumes nothing.
use Rattle.std.specs.Prelude.{List, [], ◌∷◌, ◌++◌, ◌≡◌, ℕ, zero, suc, eqb, length, take}
use Rattle.memory.specs.Search.{pick}
use Rattle.calls.specs.Answers.{number_of, value_of}
use Rattle.layer.specs.Promises.{waiting_for}
use Rattle.layer.specs.Step.{Call, receive, marks, clear_marks, step, memory_after}
use Rattle.sheet.specs.Layout.{sheet_size, followed_at, objects_in}
use Rattle.sheet.specs.Numbers.{holds_error}
use Rattle.sheet.specs.Sheets.{BeginOutcome, begin, DrainOutcome, drain}

-- what a begin is given besides table and memory: a sheet, and the objects that it is to follow
pub record BeginGiven : Type 0 where
  pub sheet : List ℕ
  pub objects : List ℕ

-- and a drain: a sheet, and a text for its lines
pub record DrainGiven : Type 0 where
  pub sheet : List ℕ
  pub text : List ℕ

abbrev pub begun_by : List ℕ → BeginGiven → List ℕ → BeginOutcome
begun_by t g m = begin t m g.sheet g.objects

abbrev pub drained_by : List ℕ → DrainGiven → List ℕ → DrainOutcome
drained_by t d m = drain t m d.sheet d.text

-- ---- a drain as its receives, marks and clear marks

-- receives of object i until one answers 4, at most n of them
abbrev pub receives_up_to : ℕ → List ℕ → ℕ → List ℕ → List Call
receives_up_to zero t i m = []
receives_up_to (suc n) t i m =
    receive i ∷ pick (eqb (number_of (step t (receive i) m).answer) 4) [] (receives_up_to n t i (step t (receive i) m).memory)

-- as many as there are values that wait, and one that answers 4
abbrev pub receives_of : List ℕ → ℕ → List ℕ → List Call
receives_of t i m = receives_up_to (suc (length (waiting_for t i m))) t i m

-- its marks are read, and cleared where they hold receive error
abbrev pub marks_of : List ℕ → ℕ → List ℕ → List Call
marks_of t i m = marks i ∷ pick (holds_error (value_of (step t (marks i) m).answer)) (clear_marks i ∷ []) []

abbrev pub turn_of : List ℕ → ℕ → List ℕ → List Call
turn_of t i m = receives_of t i m ++ marks_of t i (memory_after t (receives_of t i m) m)

-- each object in its turn
abbrev pub turns_of : List ℕ → List ℕ → List ℕ → List Call
turns_of t [] m = []
turns_of t (i ∷ is) m = turn_of t i m ++ turns_of t is (memory_after t (turn_of t i m) m)

-- the objects of the sheet, in the order given; a refused drain makes no call
abbrev pub drain_calls : List ℕ → DrainGiven → List ℕ → List Call
drain_calls t d m = pick (eqb (drained_by t d m).reply.number 0) (turns_of t (objects_in (followed_at d.sheet) d.sheet) m) []

-- ---- two of them that give the same

-- a begin: the same number and value and, where it is done, the same sheet
pub record SameBegin (o p : BeginOutcome) : Type 0 where
  pub reply : o.reply ≡ p.reply
  pub sheet : o.reply.number ≡ 0 → take sheet_size o.sheet ≡ take sheet_size p.sheet

-- a drain: the same number and value, the same sheet and, where it is done, the same lines
pub record SameDrain (o p : DrainOutcome) : Type 0 where
  pub reply : o.reply ≡ p.reply
  pub sheet : o.sheet ≡ p.sheet
  pub lines : o.reply.number ≡ 0 → take o.reply.value o.text ≡ take p.reply.value p.text
