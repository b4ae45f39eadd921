-- The claims say something: their premises hold of lists that have every call, and from the theorems themselves come a frame bit that is
-- 1, equal frames, equal values, refusals, and bytes that stay. A weaker claim does not have these.
-- Assumes nothing.
use Rattle.std.proofs.Common.{true, false, List, [], ◌∷◌, ◌≡◌, refl, ap, ℕ, ◌<◌, arith, eq-eqb, length, replicate}
use Rattle.memory.specs.Bytes.{Bytes, value, bytes_of, part, number_at}
use Rattle.memory.proofs.Tests.{tested, true_not_false}
use Rattle.bits.specs.Bits.{bit, frame_bit, place, owns, extended, read_back}
use Rattle.memory.specs.Integers.{integer, less_than}
use Rattle.filter.specs.Filters.{passes, filter_of}
use Rattle.table.specs.Records.{sending, counts, ipdu_record, object_record}
use Rattle.config.specs.Decode.{object_of}
use Rattle.state.specs.Layout.{memory_size, area_size}
use Rattle.calls.specs.Answers.{done_with}
use Rattle.calls.specs.Answers.{number_of, value_of}
use Rattle.layer.specs.Step.{Call, start, stop, send, initialise, receive, status, marks, clear_marks, start_periodic, stop_periodic, indication, confirm, tick, told_send}
use Rattle.layer.specs.Step.{told_nothing, Told, told_start, told_stop, told_initialise, lent_bytes, describe, step}
use Rattle.group.specs.Pairs as given
use Rattle.group.specs.Pairs.{in_records}
use Rattle.group.specs.Groups.{group_of}
use Rattle.trace.specs.Book.{Book, unopened, keeps, advance}
use Rattle.cases.specs.Case.{pair, send_ipdu, receive_ipdu, send_object, receive_object}
use Rattle.cases.proofs.Definitions.{definitions}
use Rattle.trace.specs.Demand3 as claim
use Rattle.trace.specs.Actions.{Action, single, group}
use Rattle.trace.specs.Demand3.{ActionsTyped, Alike, same, areas, ticks, dropped, AllAlike, alike_calls, ActionsAlike, done}
use Rattle.trace.specs.Refusals.{IsRefused}
use Rattle.trace.proofs.Refusals.{refused_leaves, never_6}
use Rattle.trace.specs.RoundTrip.{reading_in, Runs, memory_of, Takes}
use Rattle.trace.proofs.Demand3.{demand_3}
use Rattle.trace.proofs.RoundTrip.{frames_read, reading_round_trip}

-- ---- premises that hold

-- a list of all calls and a group, with the largest value, an area and a status list that hold no bytes at all
abbrev all : List Action
all =
    single start
    ∷ single stop
    ∷ single (send 0 4294967295 (999 ∷ []))
    ∷ single (initialise 0 4294967295)
    ∷ single (receive 0)
    ∷ single (status 0)
    ∷ single (marks 0)
    ∷ single (clear_marks 0)
    ∷ single start_periodic
    ∷ single stop_periodic
    ∷ single (indication 0 true (0 ∷ 255 ∷ []))
    ∷ single (confirm 0 true)
    ∷ single (tick (999 ∷ []))
    ∷ group (group_of (in_records (given.pair 0 4294967295 ∷ [])) (999 ∷ []) (999 ∷ []))
    ∷ []

pub none : Bytes []
none i = omega arith

pub all_typed : ActionsTyped all
all_typed = (
  (tt, none),
  (
    (tt, none),
    (
      (omega arith, none),
      (
        (omega arith, none),
        ((tt, none), ((tt, none), ((tt, none), ((tt, none), ((tt, none), ((tt, none), ((tt, tested (0 ∷ 255 ∷ []) refl), ((tt, none), ((tt, none), (((omega arith, none), tt), tt)))))))))),
      ),
    ),
  ),
)

-- filter 10 (new above old), initial value 0
abbrev pub table : List ℕ
table = pair (send_ipdu 0 0 0 0 10) (send_object 10 0 0)

pub bytes : Bytes table
unfolding bytes_of
bytes = tested table refl

abbrev pub here : List ℕ
here = replicate area_size 170

abbrev pub there : List ℕ
there = replicate area_size 85

-- other areas, and another value where the filter drops both
abbrev xs : List Call
xs = send 0 2748 here ∷ confirm 0 true ∷ send 0 3 here ∷ tick here ∷ []

abbrev ys : List Call
ys = send 0 2748 there ∷ confirm 0 true ∷ send 0 4 there ∷ tick there ∷ []

-- as actions
abbrev singles : List Call → List Action
singles [] = []
singles (call ∷ calls) = single call ∷ singles calls

typed_xs : ActionsTyped (singles xs)
typed_xs = ((omega arith, none), ((tt, none), ((omega arith, none), ((tt, none), tt))))

typed_ys : ActionsTyped (singles ys)
typed_ys = ((omega arith, none), ((tt, none), ((omega arith, none), ((tt, none), tt))))

pub alike : ActionsAlike table (counts table) unopened unopened (singles (start ∷ xs)) (singles (start ∷ ys))
unfolding value bytes_of part number_at integer less_than passes filter_of counts object_record advance
alike = (
  alike_calls start start refl refl (same refl),
  (
    alike_calls (send 0 2748 here) (send 0 2748 there) refl refl (areas 0 2748 here there refl refl refl),
    (
      alike_calls (confirm 0 true) (confirm 0 true) refl refl (same refl),
      (
        alike_calls (send 0 3 here) (send 0 4 there) refl refl (dropped 0 3 4 here there refl refl refl refl refl refl),
        (alike_calls (tick here) (tick there) refl refl (ticks here there refl refl refl), tt),
      ),
    ),
  ),
)

-- ---- lists that differ in a kept value are not alike

-- the object and the value of a send
abbrev sent_by : Told → ℕ × ℕ
sent_by (told_send i v) = (i, v)
sent_by told_start = (0, 0)
sent_by told_stop = (0, 0)
sent_by (told_initialise i v) = (0, 0)
sent_by told_nothing = (0, 0)

abbrev sent_of : Call → ℕ × ℕ
sent_of call = sent_by (describe call).told

unlike_call : (b d : Book) → keeps table (counts table) b 0 5 ≡ true → Alike table (counts table) b d (send 0 5 here) (send 0 6 here) → ⊥
unlike_call b d k (same e) = omega (arith, ap (λ (c : Call). (sent_of c).1) e)
unlike_call b d k (areas i v area other ex ey l) = omega (arith, ap (λ (c : Call). (sent_of c).1) ex, ap (λ (c : Call). (sent_of c).1) ey)
unlike_call b d k (ticks area other ex ey l) = omega (arith, ap (λ (c : Call). (sent_of c).1) ex)
unlike_call b d k (dropped i v w area other ex ey l kv kw inside) =
    true_not_false k (rw (← ap (λ (c : Call). (sent_of c).0) ex, ← ap (λ (c : Call). (sent_of c).1) ex) at kv)

pub unlike : AllAlike table (counts table) unopened unopened (start ∷ send 0 5 here ∷ []) (start ∷ send 0 6 here ∷ []) → ⊥
unfolding value bytes_of part number_at integer less_than passes filter_of counts object_record advance
unlike a = unlike_call _ _ refl a.1.0

-- ---- what demand 3 gives of them

abbrev after : List Call → List ℕ → List ℕ
after [] m = m
after (call ∷ calls) m = after calls (step table call m).memory

abbrev pub m : List ℕ
m = replicate memory_size 165

abbrev pub n : List ℕ
n = replicate memory_size 90

-- the start is accepted, over either memory
pub started_m : done (step table start m) ≡ true
unfolding definitions
started_m = refl

pub started_n : done (step table start n) ≡ true
unfolding definitions
started_n = refl

-- the first send asks for I-PDU 0
first_word : value_of (step table (send 0 2748 here) (after (start ∷ []) m)).answer ≡ 1
unfolding definitions
first_word = refl

requested : claim.Names (value_of (step table (send 0 2748 here) (after (start ∷ []) m)).answer) 0
unfolding bit
requested = rw first_word

-- the claim of these two lists
both : claim.ActionsKept table (counts table) unopened (singles (start ∷ xs)) m
    × (ActionsAlike table (counts table) unopened unopened (singles (start ∷ xs)) (singles (start ∷ ys)) → claim.ActionsSame table (singles (start ∷ xs)) (singles (start ∷ ys)) m n)
both = demand_3 table bytes (singles xs) (singles ys) typed_xs typed_ys m n started_m started_n

-- bit 24 of the first frame is 1 (case 1: 00 80 57 01)
pub first_frame : frame_bit (claim.frame table 0 (step table (send 0 2748 here) (after (start ∷ []) m)).area) 24 ≡ 1
unfolding value bytes_of part number_at bit place owns integer less_than passes filter_of counts ipdu_record object_record advance
first_frame = both.0.1.0.bits 0 requested 24 (omega arith)

-- that I-PDU is a send I-PDU of the table
pub first_named_lem : (0 < (counts table).ipdus) × ((ipdu_record table 0).direction ≡ sending)
first_named_lem = both.0.1.0.named 0 requested

-- the same frame from other memory and another area, the same answer to the dropped value
pub same_frame : claim.frame table 0 (step table (send 0 2748 here) (after (start ∷ []) m)).area
    ≡ claim.frame table 0 (step table (send 0 2748 there) (after (start ∷ []) n)).area
same_frame = (both.1 alike).1.0.frames 0 requested

pub same_value : value_of (step table (send 0 3 here) (after (start ∷ send 0 2748 here ∷ confirm 0 true ∷ []) m)).answer
    ≡ value_of (step table (send 0 4 there) (after (start ∷ send 0 2748 there ∷ confirm 0 true ∷ []) n)).answer
same_value = (both.1 alike).1.1.1.0.value

-- ---- refusals

-- a stopped layer refuses a send
abbrev stopped : List ℕ
stopped = after (start ∷ stop ∷ []) m

pub stopped_send : done (step table (send 0 1 here) stopped) ≡ false
unfolding value bytes_of part number_at counts object_record advance
stopped_send =
    (demand_3 table bytes (singles (stop ∷ send 0 1 here ∷ [])) [] ((tt, none), ((omega arith, none), tt)) tt m m started_m started_m).0.1.1.0.judged

refused_send : IsRefused (send 0 1 here) (step table (send 0 1 here) stopped)
refused_send = (
  λ e. true_not_false (eq-eqb (number_of (step table (send 0 1 here) stopped).answer) 0 e) stopped_send,
  λ three i e. omega (arith, ap (λ (c : Call). length (lent_bytes (describe c).lent)) e),
)

-- and changes no byte
pub stopped_send_leaves : (step table (send 0 1 here) stopped).memory ≡ stopped
stopped_send_leaves = (refused_leaves table (send 0 1 here) stopped refused_send).memory

pub stopped_send_leaves_area : (step table (send 0 1 here) stopped).area ≡ here
stopped_send_leaves_area = (refused_leaves table (send 0 1 here) stopped refused_send).area

-- a status that answers 3 is refused, and changes no byte
abbrev called_by : Call → ℕ
called_by start = 0
called_by stop = 0
called_by (send i v area) = 0
called_by (initialise i v) = 0
called_by (receive i) = 1
called_by (status i) = 0
called_by (marks i) = 0
called_by (clear_marks i) = 0
called_by start_periodic = 0
called_by stop_periodic = 0
called_by (indication k good frame) = 0
called_by (confirm k good) = 0
called_by (tick area) = 0

pub status_leaves : (t m : List ℕ) (i : ℕ) → number_of (step t (status i) m).answer ≡ 3 → (step t (status i) m).memory ≡ m
status_leaves t m i three = (refused_leaves t (status i) m ((λ zero. omega (arith, three, zero)), λ e j c. omega (arith, ap called_by c))).memory

-- no 6 with a long enough area
pub second_not_6 : number_of (step table (send 0 1 here) (after (start ∷ tick here ∷ []) m)).answer ≡ 6 → ⊥
second_not_6 = (never_6 table bytes (singles (tick here ∷ send 0 1 here ∷ [])) ((tt, none), ((omega arith, none), tt)) m started_m).1.0 refl

-- memory of zeros is a stopped layer of this table
pub zeros_stopped : number_of (step table (marks 0) (replicate memory_size 0)).answer ≡ 7
unfolding definitions
zeros_stopped = refl

-- ---- the round trip

-- the first frame, read back
pub first_reading : reading_in (object_record table (counts table).ipdus 0) (claim.frame table 0 (step table (send 0 2748 here) (after (start ∷ []) m)).area) ≡ 2748
unfolding extended read_back value bytes_of part number_at integer less_than passes filter_of counts object_record advance
first_reading = ((frames_read table bytes (singles xs) typed_xs m started_m).1.0 0 requested).0 0 refl

-- another board, with a like receive object
abbrev other : List ℕ
other = pair (receive_ipdu 0 0) (receive_object 0)

other_bytes : Bytes other
unfolding bytes_of
other_bytes = tested other refl

sender : Runs table [] m
sender = record { typed = tt; accepted = started_m; running = refl }

receiver : Runs other [] n
unfolding definitions
receiver = record { typed = tt; accepted = refl; running = refl }

takes : Takes other 0 2748 (memory_of other [] n)
unfolding value bytes_of part number_at integer less_than passes filter_of counts object_record object_of
takes = record { low = omega arith; kind = refl; passes = refl }

-- receives there what was sent here
pub received : (step other (receive 0)
    (step other (indication 0 true (claim.frame table 0 (step table (send 0 2748 here) (after (start ∷ []) m)).area)) (memory_of other [] n)).memory).answer
    ≡ done_with 2748
unfolding extended read_back value bytes_of part number_at integer less_than passes filter_of counts ipdu_record object_record advance
received =
    (reading_round_trip table bytes [] m sender (send 0 2748 here) (omega arith, none) 0 0 requested refl refl (λ n low. refl) other other_bytes [] n receiver 0
    (omega arith) (record { order = refl; start = refl; size = refl; length = refl }) 2748 refl takes).unqueued refl
