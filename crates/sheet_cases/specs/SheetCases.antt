-- W-206 by examples: journeys of calls, begins and drains, with the number that each begin and drain answers and the text that it writes.
-- Assumes nothing.
use Rattle.std.specs.Prelude.{true, false, List, [], ◌∷◌, ◌++◌, ℕ, replicate, take}
use Prim.Native.String.{String}
use Rattle.memory.specs.Texts.{line_feed}
use Rattle.state.specs.Layout.{memory_size}
use Rattle.calls.specs.Answers.{number_of, value_of}
use Rattle.layer.specs.Step.{Call, start, stop, receive, marks, indication, step, memory_after}
use Rattle.sheet.specs.Layout.{sheet_size}
use Rattle.sheet.specs.Lines.{text_size}
use Rattle.sheet.specs.Sheets.{begin, drain}
use Rattle.script.specs.Characters.{codes}
use Rattle.cases.specs.Case.{table_of, receive_ipdu, object_bytes}

-- calls whose answers are not shown; one that is; a begin for these objects; a drain into a text of so many bytes
pub data Event : Type 0 where
  made : (calls : List Call) → Event
  asks : (call : Call) → Event
  begins : (is : List ℕ) → Event
  drains : (room : ℕ) → Event

-- a number, and the value of a call, or the text that a drain wrote
pub record Shown : Type 0 where
  pub number : ℕ
  pub text : List ℕ

abbrev pub shown : ℕ → List ℕ → Shown
shown number text = record { number = number; text = text }

abbrev pub journey : List ℕ → List Event → List ℕ → List ℕ → List Shown
journey t [] m s = []
journey t (made calls ∷ es) m s = journey t es (memory_after t calls m) s
journey t (asks call ∷ es) m s =
    let o = step t call m in
    shown (number_of o.answer) (value_of o.answer ∷ []) ∷ journey t es o.memory s
journey t (begins is ∷ es) m s =
    let o = begin t m s is in
    shown o.reply.number [] ∷ journey t es m o.sheet
journey t (drains room ∷ es) m s =
    let o = drain t m s (replicate room 170) in
    shown o.reply.number (take o.reply.value o.text) ∷ journey t es o.memory o.sheet

-- from memory and sheet of any bytes
abbrev pub played : List ℕ → List Event → List Shown
played t es = journey t es (replicate memory_size 165) (replicate sheet_size 90)

abbrev pub lines : List String → List ℕ
lines [] = []
lines (l ∷ ls) = codes l ++ (line_feed ∷ []) ++ lines ls

-- ---- one receive I-PDU with two queued objects of a byte each: object 0 with room for two values, object 1 for three
abbrev pub two_cases : List ℕ
two_cases = table_of (receive_ipdu 0 0 ∷ []) (object_bytes 2 0 255 0 8 0 0 2 0 0 0 0 ∷ object_bytes 2 0 255 8 8 0 0 3 0 0 0 0 ∷ object_bytes 2 0 255 16 8 0 0 0 0 0 0 0 ∷ [])

abbrev pub frame : ℕ → ℕ → Call
frame a b = indication 0 true (a ∷ b ∷ 0 ∷ 0 ∷ [])

abbrev pub failed : Call
failed = indication 0 false []

abbrev pub full : Event
full = drains text_size

-- ---- the numbers count from the begin on

-- nothing drained; then a queue that lost a value, with least and greatest; then a bus that fails twice, which is one mark; then nothing new
abbrev pub counted : List Event
counted =
    made (start ∷ [])
    ∷ begins (1 ∷ 0 ∷ [])
    ∷ full
    ∷ made (frame 7 200 ∷ frame 8 100 ∷ frame 9 150 ∷ [])
    ∷ full
    ∷ made (failed ∷ failed ∷ frame 3 255 ∷ [])
    ∷ full
    ∷ full
    ∷ []

abbrev pub counted_shows : List Shown
counted_shows =
    shown 0 []
    ∷ shown 0 (lines ("1 0 - - - - 0 0" ∷ "0 0 - - - - 0 0" ∷ []))
    ∷ shown 0 (lines ("1 3 200 150 100 200 0 0" ∷ "0 2 7 8 7 8 1 0" ∷ []))
    ∷ shown 0 (lines ("1 4 200 255 100 255 0 1" ∷ "0 3 7 3 3 8 1 1" ∷ []))
    ∷ shown 0 (lines ("1 4 200 255 100 255 0 1" ∷ "0 3 7 3 3 8 1 1" ∷ []))
    ∷ []

-- a start between two drains empties the queue and leaves the sheet; a begin forgets it
abbrev pub restarted : List Event
restarted =
    made (start ∷ [])
    ∷ begins (0 ∷ [])
    ∷ made (frame 5 0 ∷ start ∷ [])
    ∷ full
    ∷ made (frame 6 0 ∷ [])
    ∷ full
    ∷ begins (0 ∷ [])
    ∷ full
    ∷ []

abbrev pub restarted_shows : List Shown
restarted_shows =
    shown 0 []
    ∷ shown 0 (lines ("0 0 - - - - 0 0" ∷ []))
    ∷ shown 0 (lines ("0 1 6 6 6 6 0 0" ∷ []))
    ∷ shown 0 []
    ∷ shown 0 (lines ("0 0 - - - - 0 0" ∷ []))
    ∷ []

-- ---- marks: of an arrival alone they stay; with receive error all are cleared, and only those of the objects that are followed
abbrev pub marked : List Event
marked =
    made (start ∷ [])
    ∷ begins (0 ∷ [])
    ∷ made (frame 1 2 ∷ [])
    ∷ full
    ∷ asks (marks 0)
    ∷ made (failed ∷ [])
    ∷ asks (marks 0)
    ∷ full
    ∷ asks (marks 0)
    ∷ asks (marks 1)
    ∷ asks (receive 0)
    ∷ asks (receive 1)
    ∷ []

abbrev pub marked_shows : List Shown
marked_shows =
    shown 0 []
    ∷ shown 0 (lines ("0 1 1 1 1 1 0 0" ∷ []))
    ∷ shown 0 (1 ∷ [])
    ∷ shown 0 (5 ∷ [])
    ∷ shown 0 (lines ("0 1 1 1 1 1 0 1" ∷ []))
    ∷ shown 0 (0 ∷ [])
    ∷ shown 0 (5 ∷ [])
    ∷ shown 4 (0 ∷ [])
    ∷ shown 0 (2 ∷ [])
    ∷ []

-- ---- refusals, in their order

-- memory never started; a sheet never begun; an unqueued object, none of the table, one twice; 1 before 10, also behind sixteen; more than sixteen
abbrev pub refused : List Event
refused =
    begins []
    ∷ made (start ∷ [])
    ∷ full
    ∷ begins (0 ∷ 2 ∷ [])
    ∷ begins (3 ∷ [])
    ∷ begins (256 ∷ [])
    ∷ begins (0 ∷ 1 ∷ 0 ∷ [])
    ∷ begins (0 ∷ 0 ∷ 2 ∷ [])
    ∷ begins (replicate 16 0 ++ (2 ∷ []))
    ∷ begins (replicate 17 0)
    ∷ full
    ∷ []

abbrev pub refused_shows : List Shown
refused_shows =
    shown 6 []
    ∷ shown 6 []
    ∷ shown 1 []
    ∷ shown 1 []
    ∷ shown 1 []
    ∷ shown 10 []
    ∷ shown 1 []
    ∷ shown 1 []
    ∷ shown 10 []
    ∷ shown 6 []
    ∷ []

-- a short text; an empty list; a stopped layer, behind 6 and before 1; a refused drain takes nothing
abbrev pub refused_later : List Event
refused_later =
    made (start ∷ [])
    ∷ begins []
    ∷ full
    ∷ begins (0 ∷ [])
    ∷ made (frame 4 0 ∷ [])
    ∷ drains 1535
    ∷ made (stop ∷ [])
    ∷ drains 1535
    ∷ full
    ∷ begins (9 ∷ [])
    ∷ made (start ∷ frame 4 0 ∷ [])
    ∷ drains 0
    ∷ full
    ∷ []

abbrev pub refused_later_shows : List Shown
refused_later_shows =
    shown 0 []
    ∷ shown 0 []
    ∷ shown 0 []
    ∷ shown 6 []
    ∷ shown 6 []
    ∷ shown 7 []
    ∷ shown 7 []
    ∷ shown 6 []
    ∷ shown 0 (lines ("0 1 4 4 4 4 0 0" ∷ []))
    ∷ []

-- over a wrong table 5, whatever else is wrong
abbrev pub wrong_table : List Event
wrong_table = begins (0 ∷ 0 ∷ []) ∷ drains 0 ∷ []

abbrev pub wrong_table_shows : List Shown
wrong_table_shows = shown 5 [] ∷ shown 5 [] ∷ []
