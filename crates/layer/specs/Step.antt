-- The calls of document 01 as data, what each is made of, what one does (`step`), and what a list of them does (`run`).
-- Assumes nothing.
use Rattle.std.specs.Prelude.{Bool, true, false, List, [], ◌∷◌, ℕ, ◌^◌, ◌<◌, leb, length}
use Rattle.memory.specs.Bytes.{Bytes}
use Rattle.memory.specs.Search.{pick}
use Rattle.table.specs.declared.Counts.{Counts}
use Rattle.state.specs.Layout.{area_size}
use Rattle.calls.specs.Answers.{Outcome}
use Rattle.calls.specs.Calls.{stop_in, send_in, initialise_in, receive_in, status_in, marks_in, clear_marks_in, periodic_in, indication_in, confirm_in}
use Rattle.calls.specs.Tick.{tick_in}
use Rattle.layer.specs.Admission.{Admission}
use Rattle.layer.specs.Admission.{admission, start_admission, if_admitted}
use Rattle.startup.specs.Start.{start_in}

-- a call with its arguments: i is an object's number, k an I-PDU's. A send and a tick are lent a request area.
pub data Call : Type 0 where
  start : Call
  stop : Call
  send : (i value : ℕ) (area : List ℕ) → Call
  initialise : (i value : ℕ) → Call
  receive : (i : ℕ) → Call
  status : (i : ℕ) → Call
  marks : (i : ℕ) → Call
  clear_marks : (i : ℕ) → Call
  start_periodic : Call
  stop_periodic : Call
  indication : (k : ℕ) (good : Bool) (bytes : List ℕ) → Call
  confirm : (k : ℕ) (good : Bool) → Call
  tick : (area : List ℕ) → Call

-- ---- what a call is made of

-- the request area that it is lent, or none
pub data Lent : Type 0 where
  no_area : Lent
  requests : (area : List ℕ) → Lent

abbrev pub lent_bytes : Lent → List ℕ
lent_bytes no_area = []
lent_bytes (requests area) = area

-- the area is long enough
abbrev pub long_enough : Lent → Bool
long_enough no_area = true
long_enough (requests area) = leb area_size (length area)

-- what it tells of the values sent; of its request area and of working memory nothing
pub data Told : Type 0 where
  told_start : Told
  told_stop : Told
  told_send : (i value : ℕ) → Told
  told_initialise : (i value : ℕ) → Told
  told_nothing : Told

-- the area lent, whether the layer has to run, what is told of the values sent, the bytes of an indication, and what the call does
-- over an accepted table
pub record Description : Type 0 where
  pub lent : Lent
  pub running : Bool
  pub told : Told
  pub bytes : List ℕ
  pub does : List ℕ → Counts → List ℕ → Outcome

abbrev pub described : Lent → Bool → Told → List ℕ → (List ℕ → Counts → List ℕ → Outcome) → Description
described lent running told bytes does = record { lent = lent; running = running; told = told; bytes = bytes; does = does }

-- one row for each call
abbrev pub describe : Call → Description
describe start = described no_area false told_start [] start_in
describe stop = described no_area true told_stop [] (λ t c. stop_in)
describe (send i value area) = described (requests area) true (told_send i value) [] (λ t c. send_in t c i value area)
describe (initialise i value) = described no_area true (told_initialise i value) [] (λ t c. initialise_in t c i value)
describe (receive i) = described no_area true told_nothing [] (λ t c. receive_in t c i)
describe (status i) = described no_area true told_nothing [] (λ t c. status_in t c i)
describe (marks i) = described no_area true told_nothing [] (λ t c. marks_in c i)
describe (clear_marks i) = described no_area true told_nothing [] (λ t c. clear_marks_in c i)
describe start_periodic = described no_area true told_nothing [] (periodic_in true)
describe stop_periodic = described no_area true told_nothing [] (periodic_in false)
describe (indication k good bytes) = described no_area true told_nothing bytes (λ t c. indication_in t c k good bytes)
describe (confirm k good) = described no_area true told_nothing [] (λ t c. confirm_in t c k good)
describe (tick area) = described (requests area) true told_nothing [] (λ t c. tick_in t c area)

-- ---- arguments of the types that a call takes

-- a value that is sent or initialised has 32 bits
abbrev pub Small : Told → Type 0
Small told_start = Unit {0}
Small told_stop = Unit {0}
Small (told_send i v) = v < 2 ^ 32
Small (told_initialise i v) = v < 2 ^ 32
Small told_nothing = Unit {0}

-- and an indication is lent bytes; a request area may hold anything
abbrev pub Typed : Call → Type 0
Typed call = Small (describe call).told × Bytes (describe call).bytes

-- ---- what it does

abbrev pub admission_for : Description → List ℕ → List ℕ → Admission
admission_for d t m = pick d.running (admission t m (long_enough d.lent)) (start_admission t m)

-- what a call over this table and working memory does: admitted or refused, then its own
unfoldable pub step : List ℕ → Call → List ℕ → Outcome
step t call m = if_admitted (admission_for (describe call) t m) m (lent_bytes (describe call).lent) ((describe call).does t)

-- what a list of calls over one table gives, each on the working memory that the one before left
abbrev pub run : List ℕ → List Call → List ℕ → List Outcome
run t [] m = []
run t (call ∷ calls) m = step t call m ∷ run t calls (step t call m).memory

-- the working memory that it leaves
abbrev pub memory_after : List ℕ → List Call → List ℕ → List ℕ
memory_after t [] m = m
memory_after t (call ∷ calls) m = memory_after t calls (step t call m).memory
