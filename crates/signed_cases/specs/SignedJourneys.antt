-- W-207 by a journey: the same byte drained by a signed object and by one that is not. Worked out from document 02. Assumes nothing.
use Rattle.std.specs.Prelude.{true, List, [], ◌∷◌, ℕ}
use Rattle.layer.specs.Step.{Call, start, indication}
use Rattle.cases.specs.Case.{table_of, receive_ipdu, object_bytes}
use Rattle.sheet_cases.specs.SheetCases.{Event, made, begins, Shown, shown, lines, full}

-- one receive I-PDU; objects 0 and 1 are its first byte, signed and not, each with a queue of four
abbrev pub freezers : List ℕ
freezers = table_of (receive_ipdu 0 0 ∷ []) (object_bytes 2 0 255 0 8 2 0 4 0 0 0 0 ∷ object_bytes 2 0 255 0 8 0 0 4 0 0 0 0 ∷ [])

abbrev pub byte : ℕ → Call
byte b = indication 0 true (b ∷ 0 ∷ 0 ∷ 0 ∷ [])

-- nothing drained; -1, 1 and -128, which are 255, 1 and 128; then 127
abbrev pub drained : List Event
drained =
    made (start ∷ [])
    ∷ begins (0 ∷ 1 ∷ [])
    ∷ full
    ∷ made (byte 0xFF ∷ byte 0x01 ∷ byte 0x80 ∷ [])
    ∷ full
    ∷ made (byte 0x7F ∷ [])
    ∷ full
    ∷ []

abbrev pub drained_shows : List Shown
drained_shows =
    shown 0 []
    ∷ shown 0 (lines ("0 0 - - - - 0 0" ∷ "1 0 - - - - 0 0" ∷ []))
    ∷ shown 0 (lines ("0 3 -1 -128 -128 1 0 0" ∷ "1 3 255 128 1 255 0 0" ∷ []))
    ∷ shown 0 (lines ("0 4 -1 127 -128 127 0 0" ∷ "1 4 255 127 1 255 0 0" ∷ []))
    ∷ []
