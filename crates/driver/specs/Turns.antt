-- How the functions that run a part of a script are held to the board of script_run/Parts: the part, what a line's bytes do, and its
-- line feed. Assumes nothing.
use Rattle.std.specs.Prelude.{false, List, ◌⊎◌, ◌≡◌, ℕ, ◌+◌, ◌-◌, ◌≤◌, ◌<◌, length, get_or, take, drop, Option}
use Rattle.memory.specs.Texts.{line_feed, Put}
use Rattle.script.specs.declared.Reader.{Reader}
use Rattle.report.specs.Printing.{longest_line}
use Rattle.driver.specs.declared.Part.{Part}
use Rattle.script.specs.declared.Progress.{Progress}
use Rattle.driver.specs.declared.Run.{Run}
use Rattle.driver.specs.declared.Reached.{Reached}
use Rattle.script_run.specs.Parts.{Board, line_ended, with_reader, advanced, progress_as, progress_of, resumed}
use Rattle.commands.specs.Given.{Holds}
use Rattle.table.specs.declared.Counts.{Counts}

-- ---- a part

-- what one part answers and leaves: it has run the first `read` bytes of the part, put what they print at the start of `out`, and read
-- all of the part unless `out` had no room for one line more
pub record Ran (t script : List ℕ) (p : Progress) (m area out m' area' out' : List ℕ) (r : Part) : Type 0 where
  pub inside : r.read ≤ length script
  pub kept : r.progress ≡ progress_of (advanced t (resumed p m area) (take r.read script))
  pub memory : m' ≡ (advanced t (resumed p m area) (take r.read script)).memory
  pub lent : area' ≡ (advanced t (resumed p m area) (take r.read script)).area
  pub put : Put 0 (advanced t (resumed p m area) (take r.read script)).text out out' r.written
  pub fits : r.written ≤ length out
  pub far : (r.read ≡ length script) ⊎ (length out < r.written + longest_line)

-- ---- how the functions of the run are held to it

abbrev pub run_as : (p : Progress) (checked : Option Counts) (written : ℕ) → Run
run_as p known written = record { progress = p; checked = known; written = written }

abbrev pub run_with_reader : Run → Reader → Run
run_with_reader r reader = run_as (progress_as reader r.progress.line r.progress.ended) r.checked r.written

-- the place of the first line feed from place `from` on, or the end of the part
pub record LineEnd (part : List ℕ) (from at : ℕ) : Type 0 where
  pub low : from ≤ at
  pub high : at ≤ length part
  pub none : (j : ℕ) → from ≤ j → j < at → get_or part j 0 ≡ line_feed → ⊥
  pub stops : (at ≡ length part) ⊎ (get_or part at 0 ≡ line_feed)

-- the bytes of a line from place `from` on, up to a line feed or the end of the part: all that they change is the reader
pub record Scanned (part : List ℕ) (from : ℕ) (reader : Reader) (r : Reached) : Type 0 where
  pub low : from ≤ r.at
  pub high : r.at ≤ length part
  pub runs : (t : List ℕ) (b : Board) → b.ended ≡ false → b.reader ≡ reader
      → advanced t b (take (r.at - from) (drop from part)) ≡ with_reader b r.reader
  pub stops : (r.at ≡ length part) ⊎ (get_or part r.at 0 ≡ line_feed)

-- the line feed of a line, with what it prints put into `out` from place `at` on
pub record LineRun (t : List ℕ) (p : Progress) (m area out m' area' out' : List ℕ) (at : ℕ) (r : Run) : Type 0 where
  pub kept : r.progress ≡ progress_of (line_ended t (resumed p m area))
  pub memory : m' ≡ (line_ended t (resumed p m area)).memory
  pub lent : area' ≡ (line_ended t (resumed p m area)).area
  pub line : Put at (line_ended t (resumed p m area)).text out out' r.written
  pub room : r.written ≤ at + longest_line
  pub known : Holds r.checked t m'
