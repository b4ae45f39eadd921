-- A script that is run in parts: what is kept between them, and what each byte does. Laws in proofs/Joined and proofs/Prints say that
-- the parts join, and that the whole is what Script says. Assumes nothing.
use Rattle.std.specs.Prelude.{Bool, true, false, ◌||◌, List, [], ◌∷◌, ◌++◌, ℕ, ◌+◌, ◌-◌, ◌^◌, ltb, eqb, Option, Some, None}
use Rattle.memory.specs.Search.{pick}
use Rattle.memory.specs.Texts.{line_feed}
use Rattle.calls.specs.Answers.{Outcome}
use Rattle.script.specs.declared.Command.{Command}
use Rattle.script.specs.declared.Reader.{Reader}
use Rattle.script.specs.declared.Reader.TheVariants.{Naming, First, Second, Bytes, TooMany}
use Rattle.script.specs.Reader.{next, fresh, command_of, frame_of, frame_bytes}
use Rattle.report.specs.Printing.{answer_line, refusal_line}
use Rattle.script.specs.declared.Progress.{Progress}
use Rattle.script_run.specs.Script.{effect}

-- a run so far: the line that is being read, its number, whether a line could not be read, memory and area, and what was printed
pub record Board : Type 0 where
  pub reader : Reader
  pub line : ℕ
  pub ended : Bool
  pub memory : List ℕ
  pub area : List ℕ
  pub text : List ℕ

abbrev pub board : Reader → ℕ → Bool → List ℕ → List ℕ → List ℕ → Board
board reader line ended m area text =
    record {
      reader = reader;
      line = line;
      ended = ended;
      memory = m;
      area = area;
      text = text;
    }

-- the number of a line has 64 bits
abbrev pub next_line : ℕ → ℕ
next_line n = pick (ltb n (2 ^ 64 - 1)) (n + 1) n

-- ---- what a byte does

abbrev pub answered : List ℕ → Command → Board → Outcome → Board
answered t command b o = board fresh (next_line b.line) false o.memory o.area (b.text ++ answer_line t command o.answer o.area)

abbrev pub refused : Board → Board
refused b = board fresh b.line true b.memory b.area (b.text ++ refusal_line b.line)

abbrev pub by_reading : List ℕ → Option Command → List ℕ → Board → Board
by_reading t (Some command) bytes b = answered t command b (effect t command bytes b.area b.memory)
by_reading t None bytes b = refused b

unfoldable pub line_ended : List ℕ → Board → Board
line_ended t b = by_reading t (command_of b.reader) (frame_bytes (frame_of b.reader)) b

abbrev pub with_reader : Board → Reader → Board
with_reader b reader = board reader b.line b.ended b.memory b.area b.text

-- behind a line that can't be read, nothing is
unfoldable pub advance : List ℕ → Board → ℕ → Board
advance t b x = pick b.ended b (pick (eqb x line_feed) (line_ended t b) (with_reader b (next b.reader x)))

unfoldable pub advanced : List ℕ → Board → List ℕ → Board
advanced t b [] = b
advanced t b (x ∷ script) = advanced t (advance t b x) script

-- ---- the end of the script

-- nothing was read of this line
abbrev pub is_empty : Reader → Bool
is_empty (Naming n) = eqb n.letters 0
is_empty (First n f) = false
is_empty (Second n f s) = false
is_empty (Bytes n f s h) = false
is_empty TooMany = false

-- what the end of the script prints where its last line was not ended
abbrev pub end_text : Progress → List ℕ
end_text p = pick (p.ended || is_empty p.reader) [] (refusal_line p.line)

-- ---- what is kept between parts

abbrev pub progress_as : Reader → ℕ → Bool → Progress
progress_as reader line ended = record { reader = reader; line = line; ended = ended }

abbrev pub first_progress : Progress
first_progress = progress_as fresh 1 false

abbrev pub progress_of : Board → Progress
progress_of b = progress_as b.reader b.line b.ended

-- a part begins with nothing printed
abbrev pub resumed : Progress → List ℕ → List ℕ → Board
resumed p m area = board p.reader p.line p.ended m area []
