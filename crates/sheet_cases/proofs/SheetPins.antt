-- `journey_numbers` cannot be emptied: its premises hold of a journey with calls between two drains, and a row comes out of it.
-- Assumes nothing.
use Rattle.std.proofs.Common.{false, List, [], ◌∷◌, ◌≡◌, refl, ap, ◌∙◌, ℕ, zero, suc, ◌^◌, ◌<◌, arith, get_or, replicate}
use Rattle.memory.specs.Bytes.{Bytes, bytes_of}
use Rattle.memory.specs.Integers.{integer, less_than}
use Rattle.memory.proofs.Tests.{tested}
use Rattle.state.specs.Layout.{memory_size}
use Rattle.layer.specs.declared.Reply.{Reply}
use Rattle.layer.specs.Step.{start, step}
use Rattle.layer.specs.Promises.{reply, reads_signed}
use Rattle.layer.proofs.StepBytes.{start_bytes}
use Rattle.sheet.specs.Layout.{sheet_size, row_at}
use Rattle.sheet.specs.Numbers.{row, worked_out}
use Rattle.sheet.specs.Sheets.{begin}
use Rattle.sheet.specs.Journeys.{DrainLent, Event, made, drained, EventsTyped, drains_in, sheet_after, replies_to, marks_of}
use Rattle.sheet.specs.Lines.{text_size}
use Rattle.sheet.proofs.Journeys.{journey_numbers}
use Rattle.cases.proofs.Definitions.{definitions}
use Rattle.sheet_cases.specs.SheetCases.{two_cases, frame, failed}
use Rattle.sheet_cases.proofs.SheetCases.{sheet_definitions, drain_definitions}

abbrev m : List ℕ
m = (step two_cases start (replicate memory_size 165)).memory

abbrev s : List ℕ
s = replicate sheet_size 90

abbrev is : List ℕ
is = 1 ∷ 0 ∷ []

abbrev text : List ℕ
text = replicate text_size 170

-- three frames, of which object 0 loses the last; a drain; a bus that fails; a drain
abbrev events : List Event
events =
    made (frame 7 200)
    ∷ made (frame 8 100)
    ∷ made (frame 9 150)
    ∷ drained text
    ∷ made failed
    ∷ drained text
    ∷ []

typed : EventsTyped events
typed = (
  (tt, tested (7 ∷ 200 ∷ 0 ∷ 0 ∷ []) refl),
  ((tt, tested (8 ∷ 100 ∷ 0 ∷ 0 ∷ []) refl), ((tt, tested (9 ∷ 150 ∷ 0 ∷ 0 ∷ []) refl), ((tt, tested [] refl), tt))),
)

table_bytes : Bytes two_cases
unfolding bytes_of
table_bytes = tested two_cases refl

small : (j : ℕ) → get_or is j 0 < 2 ^ 32
small zero = omega arith
small (suc zero) = omega arith
small (suc (suc j)) = omega arith

begins : (begin two_cases m s is).reply.number ≡ 0
unfolding definitions sheet_definitions drain_definitions
begins = refl

abbrev sheet : List ℕ
sheet = (begin two_cases m s is).sheet

-- what the object given as number 1 got, both from one list of drains, which is computed once
abbrev got_in : List DrainLent → List Reply × List ℕ
got_in ds = (replies_to ds sheet 1, marks_of ds sheet 1)

got_pin : got_in (drains_in two_cases events m sheet) ≡ (reply 3 7 ∷ reply 0 8 ∷ [], 1 ∷ 5 ∷ [])
unfolding definitions sheet_definitions drain_definitions
got_pin = refl

-- what object 0 got, which was given as number 1: two values, the first with an overflow; its marks, at the second drain with receive error
pub replies_pin : (replies_to (drains_in two_cases events m sheet) sheet 1 ≡ reply 3 7 ∷ reply 0 8 ∷ []) × (marks_of (drains_in two_cases events m sheet) sheet 1 ≡ 1 ∷ 5 ∷ [])
replies_pin = (ap (λ (x : List Reply × List ℕ). x.0) got_pin, ap (λ (x : List Reply × List ℕ). x.1) got_pin)

-- it is not signed
plain : reads_signed two_cases 0 ≡ false
unfolding definitions sheet_definitions
plain = refl

-- so its row, from the theorem
pub row_pin : row_at (sheet_after (drains_in two_cases events m sheet) sheet) 1 ≡ row 0 2 7 8 7 8 1 1
unfolding worked_out integer less_than
row_pin =
    journey_numbers two_cases m s is table_bytes (start_bytes two_cases (replicate memory_size 165) table_bytes (tested (replicate memory_size 165) refl)) (tested s refl) small begins
    events typed 1 (omega arith)
    ∙ (rw (plain, replies_pin.0, replies_pin.1))
