-- The claims of W-207 cannot be emptied: from the theorems themselves a value below zero that is read back, one that is not, and one that another
-- board receives. Assumes nothing.
use Rattle.std.proofs.Common.{true, List, [], ◌∷◌, ◌≡◌, refl, ℕ, arith, replicate}
use Rattle.memory.specs.Bytes.{Bytes, value, bytes_of, part, number_at}
use Rattle.memory.specs.Integers.{integer, less_than}
use Rattle.memory.proofs.Tests.{tested, true_not_false}
use Rattle.bits.specs.Bits.{bit, number, extended, read_back, fits_bits}
use Rattle.filter.specs.Filters.{passes, filter_of}
use Rattle.table.specs.Records.{counts, ipdu_record, object_record}
use Rattle.config.specs.Decode.{object_of}
use Rattle.state.specs.Layout.{memory_size}
use Rattle.calls.specs.Answers.{done_with}
use Rattle.calls.specs.Answers.{value_of}
use Rattle.layer.specs.Step.{start, send, receive, indication, step}
use Rattle.cases.specs.Case.{pair, send_ipdu, receive_ipdu, object_bytes, area}
use Rattle.cases.proofs.Definitions.{definitions}
use Rattle.trace.specs.Book.{advance}
use Rattle.trace.specs.Actions.{Action, single, memory_after_all}
use Rattle.trace.specs.Demand3.{done, frame, Names}
use Rattle.trace.specs.RoundTrip.{reading_in, ipdu_bytes, Runs, memory_of, Takes}
use Rattle.trace.proofs.Pins.{none}
use Rattle.trace.proofs.RoundTrip.{stored_last_lem, stored_exactly, reading_round_trip}
use Rattle.signed_cases.specs.SignedCases.{below}

-- a reading of 12 bits, signed big, that is sent; new below old, initial value -2047
abbrev table : List ℕ
table = pair (send_ipdu 0 0 0 0 10) (object_bytes 1 0 255 18 12 3 0 0 12 (below 2047) 0 0)

abbrev m : List ℕ
m = replicate memory_size 165

bytes : Bytes table
unfolding bytes_of
bytes = tested table refl

started : done (step table start m) ≡ true
unfolding definitions
started = refl

-- this value is sent
abbrev sends : ℕ → List Action
sends v = single (send 0 v area) ∷ []

abbrev reads : ℕ → ℕ
reads v = reading_in (object_record table (counts table).ipdus 0) (ipdu_bytes table 0 (memory_after_all table (single start ∷ sends v) m))

-- the least value that fits is read back
pub least_read_back : reads (below 2048) ≡ below 2048
unfolding value bytes_of part number_at integer less_than fits_bits passes filter_of counts object_record advance
least_read_back = (stored_exactly table bytes (sends (below 2048)) ((omega arith, none), tt) m started 0 (omega arith) 0 refl).0 refl

-- one less is not; it gives 2047
pub below_not_read_back : reads (below 2049) ≡ below 2049 → ⊥
unfolding value bytes_of part number_at integer less_than fits_bits passes filter_of counts object_record advance
below_not_read_back e =
    true_not_false ((stored_exactly table bytes (sends (below 2049)) ((omega arith, none), tt) m started 0 (omega arith) 0 refl).1 e) refl

pub below_reads : reads (below 2049) ≡ 2047
unfolding value bytes_of part number_at integer less_than bit number extended read_back passes filter_of counts object_record advance
below_reads = stored_last_lem table bytes (sends (below 2049)) ((omega arith, none), tt) m started 0 (omega arith) 0 refl

-- ---- another board, with a like receive object that passes what is below 0

abbrev other : List ℕ
other = pair (receive_ipdu 0 0) (object_bytes 2 0 255 18 12 3 0 0 12 0 0 0)

other_bytes : Bytes other
unfolding bytes_of
other_bytes = tested other refl

sender : Runs table [] m
sender = record { typed = tt; accepted = started; running = refl }

receiver : Runs other [] m
unfolding definitions
receiver = record { typed = tt; accepted = refl; running = refl }

takes : Takes other 0 (below 2048) (memory_of other [] m)
unfolding value bytes_of part number_at integer less_than passes filter_of counts object_record object_of definitions
takes = record { low = omega arith; kind = refl; passes = refl }

asked : value_of (step table (send 0 (below 2048) area) (step table start m).memory).answer ≡ 1
unfolding definitions
asked = refl

requested : Names (value_of (step table (send 0 (below 2048) area) (step table start m).memory).answer) 0
unfolding bit
requested = rw asked

pub received : (step other (receive 0)
    (step other (indication 0 true (frame table 0 (step table (send 0 (below 2048) area) (step table start m).memory).area)) (memory_of other [] m)).memory).answer
    ≡ done_with (below 2048)
unfolding value bytes_of part number_at integer less_than bit number extended read_back passes filter_of counts ipdu_record object_record advance
received =
    (reading_round_trip table bytes [] m sender (send 0 (below 2048) area) (omega arith, none) 0 0 requested refl refl (λ n low. refl) other other_bytes [] m receiver 0
    (omega arith) (record { order = refl; start = refl; size = refl; length = refl }) (below 2048) refl takes).unqueued refl
