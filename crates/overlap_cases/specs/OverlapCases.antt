-- W-205 by examples: one byte as eight door bits and as a number, and readings of both orders and of different lengths that share bits.
-- Worked out from document 02. Assumes nothing.
use Rattle.std.specs.Prelude.{List, [], ◌∷◌, ℕ, replicate}
use Rattle.layer.specs.Step.{start, send, initialise}
use Rattle.cases.specs.Case.{Line, shows, Case, answers, table_of, ipdu_bytes, object_bytes, area}
use Rattle.cases.specs.Lines.{ok, send_gives, confirm_good}

-- a direct I-PDU of so many bytes, with deadline 10
abbrev direct_of : (L : ℕ) → List ℕ
direct_of L = ipdu_bytes 1 L 0 0 0 0 10 0

-- a triggered reading of it with filter 0 and initial value 0
abbrev reading : (n size order : ℕ) → List ℕ
reading n size order = object_bytes 1 0 255 n size order 0 0 0 0 0 0

-- ---- the byte of document 02

abbrev door : (n initial : ℕ) → List ℕ
door n initial = object_bytes 1 0 255 n 1 0 0 0 0 initial 0 0

abbrev number : (filter initial : ℕ) → List ℕ
number filter initial = object_bytes 1 0 255 0 8 0 0 0 filter initial 0 0

-- objects 0 to 7 are the door bits, initial value 1; object 8 is the byte as a number, initial value hex 5A
abbrev pub doors_first : (filter : ℕ) → List ℕ
doors_first filter =
    table_of (direct_of 1 ∷ []) (door 0 1 ∷ door 1 1 ∷ door 2 1 ∷ door 3 1 ∷ door 4 1 ∷ door 5 1 ∷ door 6 1 ∷ door 7 1 ∷ number filter 0x5A ∷ [])

-- object 0 is the number, objects 1 to 8 are the door bits, their initial values together hex A5
abbrev number_first : List ℕ
number_first =
    table_of (direct_of 1 ∷ []) (number 0 0x5A ∷ door 0 1 ∷ door 1 0 ∷ door 2 1 ∷ door 3 0 ∷ door 4 0 ∷ door 5 1 ∷ door 6 0 ∷ door 7 1 ∷ [])

-- a send that asks for I-PDU 0 with this byte
abbrev sends_byte : (i value byte : ℕ) → Line
sends_byte i value byte = shows (send i value area) 0 1 (0 ∷ []) (byte ∷ replicate 7 0)

-- the initial value of the higher number stands; then a door before the number and behind it, the number last
abbrev either_order : Case
either_order =
    answers (doors_first 0)
    (ok start
    ∷ sends_byte 2 1 0x5E
    ∷ confirm_good 0
    ∷ sends_byte 8 0xA1 0xA1
    ∷ confirm_good 0
    ∷ sends_byte 3 1 0xA9
    ∷ confirm_good 0
    ∷ sends_byte 0 0 0xA8
    ∷ confirm_good 0
    ∷ sends_byte 8 0 0
    ∷ [])

-- here the doors have the higher numbers
abbrev doors_stand : Case
doors_stand = answers number_first (ok start ∷ sends_byte 1 0 0xA4 ∷ [])

-- initialise asks for nothing; the next frame shows it
abbrev initialise_over_send : Case
initialise_over_send =
    answers (doors_first 0)
    (ok start
    ∷ sends_byte 8 0xA5 0xA5
    ∷ confirm_good 0
    ∷ ok (initialise 0 0)
    ∷ ok (initialise 2 0)
    ∷ sends_byte 7 0 0x20
    ∷ confirm_good 0
    ∷ ok (initialise 8 0xFF)
    ∷ sends_byte 7 0 0x7F
    ∷ [])

-- filter 10, new above old: 100 is dropped, and the door stays
abbrev dropped_number : Case
dropped_number =
    answers (doors_first 10)
    (ok start
    ∷ sends_byte 8 0xA5 0xA5
    ∷ confirm_good 0
    ∷ sends_byte 1 1 0xA7
    ∷ confirm_good 0
    ∷ send_gives 8 100 0
    ∷ sends_byte 6 1 0xE7
    ∷ [])

-- ---- any readings: 0 and 1 have the same bits, 2 is big over both bytes, 3 is little over both, 4 is one bit

abbrev pub any_readings : List ℕ
any_readings = table_of (direct_of 2 ∷ []) (reading 0 8 0 ∷ reading 0 8 0 ∷ reading 12 12 1 ∷ reading 2 12 0 ∷ reading 13 1 0 ∷ [])

abbrev sends_bytes : (i value first second : ℕ) → Line
sends_bytes i value first second = shows (send i value area) 0 1 (0 ∷ []) (first ∷ second ∷ replicate 6 0)

abbrev any_overlap : Case
any_overlap =
    answers any_readings
    (ok start
    ∷ sends_bytes 2 0xABC 0xAB 0xC0
    ∷ confirm_good 0
    ∷ sends_bytes 1 0x12 0x12 0xC0
    ∷ confirm_good 0
    ∷ sends_bytes 0 0x34 0x34 0xC0
    ∷ confirm_good 0
    ∷ sends_bytes 3 0xFFF 0xFC 0xFF
    ∷ confirm_good 0
    ∷ sends_bytes 2 0 0x00 0x0F
    ∷ confirm_good 0
    ∷ sends_bytes 4 1 0x00 0x2F
    ∷ [])

abbrev pub overlap_cases : List Case
overlap_cases = either_order ∷ doors_stand ∷ initialise_over_send ∷ dropped_number ∷ any_overlap ∷ []
