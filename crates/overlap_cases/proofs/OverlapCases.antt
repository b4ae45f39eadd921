-- The examples of W-205, proved by computation from the definitions; then what the claims say of a list with a door bit behind the number and
-- a number that is dropped. A weaker claim does not have it.
-- Assumes nothing.
use Rattle.std.proofs.Common.{Bool, true, false, List, [], ◌∷◌, ◌≡◌, refl, ℕ, ◌<◌, arith, replicate}
use Rattle.memory.specs.Bytes.{Bytes, value, bytes_of, part, number_at}
use Rattle.bits.specs.Bits.{bit, frame_bit, place, owns, extended, read_back}
use Rattle.memory.specs.Integers.{integer, less_than}
use Rattle.filter.specs.Filters.{passes, next_count, filter_of}
use Rattle.table.specs.Records.{counts, ipdu_record, object_record}
use Rattle.state.specs.Layout.{memory_size}
use Rattle.calls.specs.Answers.{value_of}
use Rattle.layer.specs.Step.{start, send, confirm, step}
use Rattle.group.specs.Pairs as given
use Rattle.group.specs.Pairs.{in_records}
use Rattle.group.specs.Groups.{Group, group_of}
use Rattle.cases.specs.Case.{AllHold, area}
use Rattle.cases.proofs.Definitions.{definitions, ◌&◌}
use Rattle.cases.proofs.Computed.{all_hold}
use Rattle.trace.specs.Book.{Entry, opened, advance}
use Rattle.trace.specs.Actions.{Action, single, group, memory_after_all, book_after_all}
use Rattle.trace.specs.Demand3.{ActionsTyped, done, frame, Names}
use Rattle.trace.specs.RoundTrip.{reading_in, stored_last, covered_since, message_place, ipdu_bytes}
use Rattle.memory.proofs.Tests.{tested}
use Rattle.trace.proofs.Pins.{none}
use Rattle.trace.proofs.Demand3.{demand_3}
use Rattle.trace.proofs.RoundTrip.{stored_last_lem, stored_earlier}
use Rattle.overlap_cases.specs.OverlapCases.{doors_first, overlap_cases}

pub overlap_cases_hold : AllHold overlap_cases
unfolding definitions
overlap_cases_hold = all_hold overlap_cases (refl & refl & refl & refl & refl & tt)

-- ---- the claims of one list, each premise proved

-- object 8, the number, has filter 10, new above old
abbrev table : List ℕ
table = doors_first 10

abbrev m : List ℕ
m = replicate memory_size 165

-- door 1, which is kept, and a number that is dropped
abbrev door_and_number : Group
door_and_number = group_of (in_records (given.pair 1 1 ∷ given.pair 8 100 ∷ [])) area (9 ∷ 9 ∷ [])

abbrev xs : List Action
xs = single (send 8 0xA5 area) ∷ single (confirm 0 true) ∷ group door_and_number ∷ []

bytes : Bytes table
unfolding bytes_of
bytes = tested table refl

started : done (step table start m) ≡ true
unfolding definitions
started = refl

typed : ActionsTyped xs
typed = (omega arith, none) & (tt, none) & ((omega arith, none) & (omega arith, none) & tt) & tt

-- the entries of the book, and the bytes of the I-PDU, after it
abbrev es : List Entry
es = (book_after_all table (counts table) (opened table (counts table)) xs).entries

abbrev stored : List ℕ
stored = ipdu_bytes table 0 (memory_after_all table (single start ∷ xs) m)

-- door 1 was stored last, and is open
pub door_reads : reading_in (object_record table (counts table).ipdus 1) stored ≡ 1
unfolding value bytes_of part number_at integer less_than extended read_back passes next_count filter_of counts object_record advance
door_reads = stored_last_lem table bytes xs typed m started 0 (omega arith) 1 refl

-- the number is older; at the place of its bit 1 it is covered, and nowhere else
abbrev covered_at : ℕ → Bool
covered_at n = covered_since table (counts table) 8 0 (message_place (object_record table (counts table).ipdus 8) n) es

pub covered_once : (stored_last table (counts table) 0 8 es ≡ false) × (covered_at 0 ≡ false) × (covered_at 1 ≡ true) × (covered_at 2 ≡ false)
unfolding value bytes_of part number_at place owns integer less_than passes next_count filter_of counts object_record advance
covered_once = (refl, refl, refl, refl)

own_bit : (n : ℕ) → n < 8 → covered_at n ≡ false → bit (reading_in (object_record table (counts table).ipdus 8) stored) n ≡ bit 0xA5 n
unfolding value bytes_of part number_at integer less_than passes next_count filter_of counts object_record advance
own_bit n low free = stored_earlier table bytes xs typed m started 0 (omega arith) 8 n refl refl low free

pub number_reads : (bit (reading_in (object_record table (counts table).ipdus 8) stored) 0 ≡ 1) × (bit (reading_in (object_record table (counts table).ipdus 8) stored) 6 ≡ 0)
    × (bit (reading_in (object_record table (counts table).ipdus 8) stored) 7 ≡ 1)
unfolding value bytes_of part number_at bit place owns integer less_than passes next_count filter_of counts object_record advance
number_reads = (own_bit 0 (omega arith) refl, own_bit 6 (omega arith) refl, own_bit 7 (omega arith) refl)

-- ---- demand 3: the frame that the group hands over for door 1

abbrev before : List ℕ
before = memory_after_all table (single start ∷ single (send 8 0xA5 area) ∷ single (confirm 0 true) ∷ []) m

asked : value_of (step table (send 1 1 area) before).answer ≡ 1
unfolding definitions
asked = refl

requested : Names (value_of (step table (send 1 1 area) before).answer) 0
unfolding bit
requested = rw asked

-- bit 0 is the number's, above door 0's initial value; bit 1 is the door's, which is later; bit 3 is the number's 0, later than door 3's 1
pub latest_bits : (frame_bit (frame table 0 (step table (send 1 1 area) before).area) 0 ≡ 1) × (frame_bit (frame table 0 (step table (send 1 1 area) before).area) 1 ≡ 1)
    × (frame_bit (frame table 0 (step table (send 1 1 area) before).area) 3 ≡ 0)
unfolding value bytes_of part number_at bit place owns integer less_than passes next_count filter_of counts ipdu_record object_record advance
latest_bits =
    let kept = ((demand_3 table bytes xs [] typed tt m m started started).0.1.1.1.0.sends refl).0 in
    (kept.bits 0 requested 0 (omega arith), kept.bits 0 requested 1 (omega arith), kept.bits 0 requested 3 (omega arith))
