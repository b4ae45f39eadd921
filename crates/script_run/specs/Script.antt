-- W-201: what a script prints, and what it leaves in memory and area. Assumes nothing.
use Rattle.std.specs.Prelude.{Bool, true, false, List, [], ◌∷◌, ◌++◌, ℕ, suc, eqb, Option, Some, None}
use Rattle.memory.specs.Search.{pick}
use Rattle.memory.specs.Texts.{line_feed}
use Rattle.table.specs.declared.Counts.{Counts}
use Rattle.calls.specs.Answers.{Outcome, outcome}
use Rattle.layer.specs.Step.{Call, start, stop, send, initialise, receive, status, marks, clear_marks, start_periodic, stop_periodic, indication, confirm, tick}
use Rattle.layer.specs.Step.{describe, step}
use Rattle.script.specs.declared.Ask.TheVariants.{Receive, Status, Marks, ClearMarks}
use Rattle.script.specs.declared.Command.{Command}
use Rattle.script.specs.declared.Command.TheVariants.{Start, Stop, Send, Initialise, Object, Periodic, Indication, Confirm, Tick}
use Rattle.script.specs.Reading.{fields_of, bytes_in, read_line}
use Rattle.report.specs.Printing.{lends, answer_line, refusal_line}

-- ---- the call of a command, with the bytes of an indication and the request area that it is lent

abbrev pub call_of : Command → List ℕ → List ℕ → Call
call_of Start bytes area = start
call_of Stop bytes area = stop
call_of (Send i v) bytes area = send i.0 v area
call_of (Initialise i v) bytes area = initialise i.0 v
call_of (Object Receive i) bytes area = receive i.0
call_of (Object Status i) bytes area = status i.0
call_of (Object Marks i) bytes area = marks i.0
call_of (Object ClearMarks i) bytes area = clear_marks i.0
call_of (Periodic true) bytes area = start_periodic
call_of (Periodic false) bytes area = stop_periodic
call_of (Indication k good) bytes area = indication k.0 good bytes
call_of (Confirm k good) bytes area = confirm k.0 good
call_of Tick bytes area = tick area

-- a call that is lent no request area leaves it
abbrev pub settled : Bool → List ℕ → Outcome → Outcome
settled true area o = o
settled false area o = outcome o.answer o.memory area

-- what the command does over this table, area and working memory
unfoldable pub effect : List ℕ → Command → List ℕ → List ℕ → List ℕ → Outcome
effect t command bytes area m = settled (lends command) area (step t (call_of command bytes area) m)

-- what the command's call does itself, over an accepted table and a memory in range
unfoldable pub own : List ℕ → Counts → Command → List ℕ → List ℕ → List ℕ → Outcome
own t c command bytes area m = settled (lends command) area ((describe (call_of command bytes area)).does t c m)

-- ---- the lines of a script; a last one without its line feed can't be read

pub data ScriptLine : Type 0 where
  readable : (command : Command) (bytes : List ℕ) → ScriptLine
  unreadable : ScriptLine

abbrev pub line_as : Option Command → List ℕ → ScriptLine
line_as (Some command) bytes = readable command bytes
line_as None bytes = unreadable

abbrev pub line_of : List ℕ → ScriptLine
line_of line = line_as (read_line line) (bytes_in (fields_of line))

abbrev pub unended : List ℕ → List ScriptLine
unended [] = []
unended (b ∷ line) = unreadable ∷ []

abbrev pub lines_from : List ℕ → List ℕ → List ScriptLine
lines_from line [] = unended line
lines_from line (b ∷ script) = pick (eqb b line_feed) (line_of line ∷ lines_from [] script) (lines_from (line ++ b ∷ []) script)

abbrev pub lines_of : List ℕ → List ScriptLine
lines_of script = lines_from [] script

-- ---- what is printed from line n on: the calls in order, up to the first line that can't be read

pub record Printed : Type 0 where
  pub text : List ℕ
  pub memory : List ℕ
  pub area : List ℕ

abbrev pub printed : List ℕ → List ℕ → List ℕ → Printed
printed text m area = record { text = text; memory = m; area = area }

abbrev pub behind : List ℕ → Printed → Printed
behind text p = printed (text ++ p.text) p.memory p.area

abbrev pub print : List ℕ → ℕ → List ScriptLine → List ℕ → List ℕ → Printed
print t n [] m area = printed [] m area
print t n (unreadable ∷ lines) m area = printed (refusal_line n) m area
print t n (readable command bytes ∷ lines) m area =
    behind (answer_line t command (effect t command bytes area m).answer (effect t command bytes area m).area)
    (print t (suc n) lines (effect t command bytes area m).memory (effect t command bytes area m).area)

-- what a script prints over this table, working memory and area
abbrev pub printed_by : List ℕ → List ℕ → List ℕ → List ℕ → Printed
printed_by t script m area = print t 1 (lines_of script) m area

-- ---- a stopped layer's memory: what a start and a stop leave

abbrev pub begun : List ℕ → List ℕ → List ℕ
begun t m = (step t stop (step t start m).memory).memory
