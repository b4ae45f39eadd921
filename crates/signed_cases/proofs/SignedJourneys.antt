-- The journey of W-207, by computation; and a row of a signed object from `journey_numbers` itself. Assumes nothing.
use Rattle.std.proofs.Common.{true, List, [], ◌∷◌, ◌≡◌, refl, ◌∙◌, ℕ, zero, suc, ◌^◌, ◌<◌, arith, get_or, replicate}
use Rattle.memory.specs.Bytes.{Bytes, bytes_of}
use Rattle.memory.specs.Integers.{integer, less_than}
use Rattle.memory.proofs.Tests.{tested}
use Rattle.state.specs.Layout.{memory_size}
use Rattle.layer.specs.Step.{start, step}
use Rattle.layer.specs.Promises.{reply, reads_signed}
use Rattle.layer.proofs.StepBytes.{start_bytes}
use Rattle.config.specs.Decode.{is_signed}
use Rattle.sheet.specs.Layout.{sheet_size, row_at}
use Rattle.sheet.specs.Numbers.{row, worked_out}
use Rattle.sheet.specs.Sheets.{begin}
use Rattle.sheet.specs.Journeys as journeys
use Rattle.sheet.specs.Lines.{text_size}
use Rattle.sheet.proofs.Journeys.{journey_numbers}
use Rattle.cases.proofs.Definitions.{definitions}
use Rattle.sheet_cases.specs.SheetCases.{played}
use Rattle.sheet_cases.proofs.SheetCases.{sheet_definitions, drain_definitions}
use Rattle.signed_cases.specs.SignedCases.{below}
use Rattle.signed_cases.specs.SignedJourneys.{freezers, byte, drained, drained_shows}

pub journey_shows : played freezers drained ≡ drained_shows
unfolding definitions sheet_definitions drain_definitions
journey_shows = refl

-- ---- a row from the theorem

abbrev m : List ℕ
m = (step freezers start (replicate memory_size 165)).memory

abbrev s : List ℕ
s = replicate sheet_size 90

abbrev is : List ℕ
is = 0 ∷ []

-- three bytes, then a drain
abbrev events : List journeys.Event
events =
    journeys.made (byte 0xFF)
    ∷ journeys.made (byte 0x01)
    ∷ journeys.made (byte 0x80)
    ∷ journeys.drained (replicate text_size 170)
    ∷ []

typed : journeys.EventsTyped events
typed = (
  (tt, tested (0xFF ∷ 0 ∷ 0 ∷ 0 ∷ []) refl),
  ((tt, tested (0x01 ∷ 0 ∷ 0 ∷ 0 ∷ []) refl), ((tt, tested (0x80 ∷ 0 ∷ 0 ∷ 0 ∷ []) refl), tt)),
)

table_bytes : Bytes freezers
unfolding bytes_of
table_bytes = tested freezers refl

small : (j : ℕ) → get_or is j 0 < 2 ^ 32
small zero = omega arith
small (suc j) = omega arith

begins : (begin freezers m s is).reply.number ≡ 0
unfolding definitions sheet_definitions drain_definitions
begins = refl

abbrev sheet : List ℕ
sheet = (begin freezers m s is).sheet

replies : (journeys.replies_to (journeys.drains_in freezers events m sheet) sheet 0 ≡ reply 0 (below 1) ∷ reply 0 1 ∷ reply 0 (below 128) ∷ [])
    × (journeys.marks_of (journeys.drains_in freezers events m sheet) sheet 0 ≡ 1 ∷ [])
unfolding definitions sheet_definitions drain_definitions
replies = (refl, refl)

signed : reads_signed freezers 0 ≡ true
unfolding definitions reads_signed is_signed
signed = refl

-- first -1, last and least -128, greatest 1
pub signed_row : row_at (journeys.sheet_after (journeys.drains_in freezers events m sheet) sheet) 0 ≡ row 0 3 (below 1) (below 128) (below 128) 1 0 0
unfolding integer less_than worked_out
signed_row =
    journey_numbers freezers m s is table_bytes (start_bytes freezers (replicate memory_size 165) table_bytes (tested (replicate memory_size 165) refl)) (tested s refl) small begins
    events typed 0 (omega arith)
    ∙ (rw (signed, replies.0, replies.1))
