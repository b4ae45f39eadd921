-- W-201: the calls of a script as a list, and the text of what a run of them gives. The law in proofs/Runs says that this is what is
-- printed. Assumes nothing.
use Rattle.std.specs.Prelude.{List, [], ◌∷◌, ◌++◌, ℕ, suc}
use Rattle.calls.specs.Answers.{Outcome}
use Rattle.layer.specs.Step.{Call}
use Rattle.report.specs.Printing.{lends, answer_line, refusal_line}
use Rattle.script_run.specs.Script.{call_of, settled, effect, ScriptLine, readable, unreadable}

-- the calls up to the first line that can't be read, each lent the area that the one before left
abbrev pub calls_of : List ℕ → List ScriptLine → List ℕ → List ℕ → List Call
calls_of t [] m area = []
calls_of t (unreadable ∷ lines) m area = []
calls_of t (readable command bytes ∷ lines) m area =
    call_of command bytes area ∷ calls_of t lines (effect t command bytes area m).memory (effect t command bytes area m).area

-- the lines of what the calls gave
abbrev pub answer_lines : List ℕ → List ScriptLine → List ℕ → List Outcome → List ℕ
answer_lines t [] area os = []
answer_lines t (unreadable ∷ lines) area os = []
answer_lines t (readable command bytes ∷ lines) area [] = []
answer_lines t (readable command bytes ∷ lines) area (o ∷ os) =
    answer_line t command o.answer (settled (lends command) area o).area ++ answer_lines t lines (settled (lends command) area o).area os

-- `9 N` for the first line that can't be read; the first of these lines has number n
abbrev pub refusal_of : ℕ → List ScriptLine → List ℕ
refusal_of n [] = []
refusal_of n (unreadable ∷ lines) = refusal_line n
refusal_of n (readable command bytes ∷ lines) = refusal_of (suc n) lines
