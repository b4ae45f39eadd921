-- Demand 2 over lists of calls, with W-205 and W-207: what the bytes of an I-PDU and the frames that are handed over unpack to, and what a
-- receiver then gives.
-- Assumes nothing.
use Rattle.std.specs.Prelude.{Bool, true, false, not, ◌&&◌, ◌||◌, List, [], ◌∷◌, ◌++◌, ◌≡◌, ℕ, ◌<◌, eqb}
use Rattle.memory.specs.Bytes.{part}
use Rattle.memory.specs.Search.{pick}
use Rattle.bits.specs.Bits.{bit, place, unpacked, extended, read_back, fits_bits}
use Rattle.table.specs.declared.Counts.{Counts}
use Rattle.table.specs.declared.ObjectRecord.{ObjectRecord}
use Rattle.table.specs.Records.{receiving, counts, ipdu_record, object_record}
use Rattle.table.specs.Rules.{order_of, signed_of}
use Rattle.state.specs.Layout.{slot_at, object_state}
use Rattle.message.specs.Objects.{object, passes_filter}
use Rattle.queue.specs.Queues.{waiting}
use Rattle.calls.specs.Answers.{done_with}
use Rattle.calls.specs.Answers.{Outcome, value_of}
use Rattle.layer.specs.Admission.{working_memory}
use Rattle.layer.specs.Step.{Call, start, receive, step, run, memory_after}
use Rattle.group.specs.Groups.{group_step}
use Rattle.trace.specs.Book.{Entry, Book, sends, last_of, opened, advance, book_after, owns_ipdu_bit}
use Rattle.trace.specs.Actions.{Action, single, group, leaves, group_sends, accepts_group, advance_by, expanded, memory_after_all, book_after_all}
use Rattle.trace.specs.Demand3.{AllTyped, ActionsTyped, done, word_of, frame, Names, HandedOver}

-- ---- readings in the bytes of an I-PDU

-- a signed one has its top bit copied upwards
abbrev pub reading_in : ObjectRecord → List ℕ → ℕ
reading_in r f = extended (signed_of r.order) r.size (unpacked (order_of r.order) r.start r.size f)

-- what a value of the object gives when it is stored and unpacked: its low bits, extended in the same way
abbrev pub reading_of : ObjectRecord → ℕ → ℕ
reading_of r v = read_back (signed_of r.order) r.size v

-- the value fits the object's bits
abbrev pub Fitting : ObjectRecord → ℕ → Type 0
Fitting r v = fits_bits (signed_of r.order) r.size v ≡ true

-- object i's is the latest of the values kept in I-PDU k
abbrev pub stored_last : List ℕ → Counts → ℕ → ℕ → List Entry → Bool
stored_last t c k i [] = false
stored_last t c k i (e ∷ es) = pick (eqb (object_record t c.ipdus e.object).ipdu k) (eqb e.object i) (stored_last t c k i es)

-- a value kept since object i's last one covers bit p of I-PDU k. One that was dropped has no entry, and covers nothing
abbrev pub covered_since : List ℕ → Counts → ℕ → ℕ → ℕ → List Entry → Bool
covered_since t c i k p [] = false
covered_since t c i k p (e ∷ es) = not (eqb e.object i) && (owns_ipdu_bit (object_record t c.ipdus e.object) k p || covered_since t c i k p es)

-- the bit of the I-PDU that message bit n of a reading goes to
abbrev pub message_place : ObjectRecord → ℕ → ℕ
message_place r n = place (order_of r.order) r.start n

-- the reading stored last in I-PDU k, unpacked from the bytes f, gives the low bits of its value
abbrev pub LastReads : List ℕ → Counts → List Entry → ℕ → List ℕ → Type 0
LastReads t c es k f =
    (i : ℕ) → stored_last t c k i es ≡ true → reading_in (object_record t c.ipdus i) f ≡ reading_of (object_record t c.ipdus i) (last_of i es)

-- which is the value itself exactly where that fits its bits (W-207)
abbrev pub LastExact : List ℕ → Counts → List Entry → ℕ → List ℕ → Type 0
LastExact t c es k f =
    (i : ℕ) → stored_last t c k i es ≡ true
    → (Fitting (object_record t c.ipdus i) (last_of i es) → reading_in (object_record t c.ipdus i) f ≡ last_of i es)
    × (reading_in (object_record t c.ipdus i) f ≡ last_of i es → Fitting (object_record t c.ipdus i) (last_of i es))

-- any reading of it gives its own bit at each place that no value kept since covers
abbrev pub OlderReads : List ℕ → Counts → List Entry → ℕ → List ℕ → Type 0
OlderReads t c es k f =
    (i n : ℕ) → sends t c i ≡ true → (object_record t c.ipdus i).ipdu ≡ k → n < (object_record t c.ipdus i).size
    → covered_since t c i k (message_place (object_record t c.ipdus i) n) es ≡ false → bit (reading_in (object_record t c.ipdus i) f) n ≡ bit (last_of i es) n

-- ---- the round trip: so it is of the bytes of each I-PDU in working memory, after every list that begins with an accepted start

abbrev pub ipdu_bytes : List ℕ → ℕ → List ℕ → List ℕ
ipdu_bytes t k m = part (slot_at k) (ipdu_record t k).length (working_memory m)

abbrev pub Stored : List ℕ → (List Entry → ℕ → List ℕ → Type 0) → Type 0
Stored t Reads =
    (xs : List Action) → ActionsTyped xs → (m : List ℕ) → done (step t start m) ≡ true → (k : ℕ) → k < (counts t).ipdus
    → Reads (book_after_all t (counts t) (opened t (counts t)) xs).entries k (ipdu_bytes t k (memory_after_all t (single start ∷ xs) m))

abbrev pub StoredLast : List ℕ → Type 0
StoredLast t = Stored t (LastReads t (counts t))

abbrev pub StoredExactly : List ℕ → Type 0
StoredExactly t = Stored t (LastExact t (counts t))

abbrev pub StoredEarlier : List ℕ → Type 0
StoredEarlier t = Stored t (OlderReads t (counts t))

-- ---- and of each frame that a call hands over, with that call's own value entered

abbrev pub FramesRead : List ℕ → Counts → Book → Call → Outcome → Type 0
FramesRead t c b call o =
    (k : ℕ) → Names (word_of call o.answer) k
    → LastReads t c (advance t c b call).entries k (frame t k o.area) × OlderReads t c (advance t c b call).entries k (frame t k o.area)

abbrev pub AllRead : List ℕ → Counts → Book → List Call → List ℕ → Type 0
AllRead t c b [] m = Unit {0}
AllRead t c b (call ∷ calls) m = FramesRead t c b call (step t call m) × AllRead t c (advance t c b call) calls (step t call m).memory

-- so it is of a group's sends, and each frame that the group hands over is one of theirs
abbrev pub ActionRead : List ℕ → Counts → Book → Action → List ℕ → Type 0
ActionRead t c b (single call) m = FramesRead t c b call (step t call m)
ActionRead t c b (group g) m =
    (accepts_group b g ≡ true → AllRead t c b (group_sends g) m)
    × ((k : ℕ) → Names (value_of (group_step t g m).answer) k → HandedOver t k (frame t k (group_step t g m).area) (run t (group_sends g) m))

abbrev pub ActionsRead : List ℕ → Counts → Book → List Action → List ℕ → Type 0
ActionsRead t c b [] m = Unit {0}
ActionsRead t c b (x ∷ xs) m = ActionRead t c b x m × ActionsRead t c (advance_by t c b x) xs (leaves t x m)

-- ---- receivers

-- a layer that runs: after an accepted start over m and a list of calls, not stopped
pub record Runs (t : List ℕ) (calls : List Call) (m : List ℕ) : Type 0 where
  pub typed : AllTyped calls
  pub accepted : done (step t start m) ≡ true
  pub running : (book_after t (counts t) (opened t (counts t)) calls).stopped ≡ false

-- its working memory
abbrev pub memory_of : List ℕ → List Call → List ℕ → List ℕ
memory_of t calls m = memory_after t (start ∷ calls) m

-- a layer that runs after a list with groups: so it does after the single calls that the list stands for, with the same working memory
pub record ActionsRun (t : List ℕ) (xs : List Action) (m : List ℕ) : Type 0 where
  pub runs : Runs t (expanded t (counts t) (opened t (counts t)) xs) m
  pub memory : memory_after_all t (single start ∷ xs) m ≡ memory_of t (expanded t (counts t) (opened t (counts t)) xs) m

-- there is a receive object of this number, and its filter passes the value
pub record Takes (t : List ℕ) (j v : ℕ) (m : List ℕ) : Type 0 where
  pub low : j < (counts t).objects
  pub kind : (object_record t (counts t).ipdus j).kind ≡ receiving
  pub passes : passes_filter (object t (counts t) j) v (object_state (working_memory m) j) ≡ true

-- the value has arrived between two memories: an unqueued object gives it; in a queue that was not full it waits behind the others
pub record Arrived (t : List ℕ) (j v : ℕ) (before after : List ℕ) : Type 0 where
  pub unqueued : (object_record t (counts t).ipdus j).depth ≡ 0 → (step t (receive j) after).answer ≡ done_with v
  pub queued : (object_state (working_memory before) j).count < (object_record t (counts t).ipdus j).depth
      → waiting (object_record t (counts t).ipdus j).depth j (working_memory after) ≡ waiting (object_record t (counts t).ipdus j).depth j (working_memory before) ++ (v ∷ [])

-- no value kept since covers a bit of object i's reading
abbrev pub Uncovered : List ℕ → Counts → ℕ → List Entry → Type 0
Uncovered t c i es =
    (n : ℕ) → n < (object_record t c.ipdus i).size
    → covered_since t c i (object_record t c.ipdus i).ipdu (message_place (object_record t c.ipdus i) n) es ≡ false

-- two objects of the same order, start bit and length, in I-PDUs of one length
pub record Like (t : List ℕ) (r : ObjectRecord) (u : List ℕ) (s : ObjectRecord) : Type 0 where
  pub order : s.order ≡ r.order
  pub start : s.start ≡ r.start
  pub size : s.size ≡ r.size
  pub length : (ipdu_record u s.ipdu).length ≡ (ipdu_record t r.ipdu).length
