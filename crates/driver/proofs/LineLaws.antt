-- The end of a line: its call is made and printed, or it can't be read. What the functions that end a line cite. Assumes nothing.
use Rattle.std.proofs.Common.{◌-◌, ◌^◌, ◌<◌, min, ⊎_elim, lt-ltb, le-ltb}
use Rattle.std.proofs.Common.{true, false, List, ◌≡◌, sym, ◌∙◌, ℕ, ◌+◌, ◌≤◌, arith, length, take, drop, Option, Some, None}
use lib.Seq.{sets}
use Rattle.std.proofs.lemmas.List.{take_all}
use Rattle.memory.specs.Texts.{Put}
use Rattle.memory.proofs.Tests.{lt_or_le}
use Rattle.memory.proofs.Parts.{sets_replaced, replaced_whole}
use Rattle.script.specs.declared.Command.{Command}
use Rattle.script.specs.declared.Frame.{Frame}
use Rattle.script.specs.declared.Reader.{Reader}
use Rattle.script.specs.Reader.{fresh, command_of, frame_of, bytes_down, frame_bytes}
use Rattle.script.proofs.BytesDown.{down_length, low_bytes}
use Rattle.report.specs.Printing.{refusal_line, longest_line}
use Rattle.report.proofs.StatusLines.{refusal_length}
use Rattle.script.specs.declared.Progress.{Progress}
use Rattle.script_run.specs.Script.{effect}
use Rattle.script_run.specs.Parts.{next_line, line_ended, progress_as}
use Rattle.commands.specs.Given.{Holds, Gave}
use Rattle.driver.specs.Turns.{run_as, LineRun}
use Rattle.table.specs.declared.Counts.{Counts}

-- ---- the bytes of an indication are the last of nine

-- nine bytes that were all put
pub spelt_whole : (x : ℕ) (m : List ℕ) → length m ≡ 9 → sets m 0 (bytes_down 9 x) ≡ bytes_down 9 x
spelt_whole x m nine =
    let long : length (bytes_down 9 x) ≡ length m = down_length 9 x ∙ sym nine in
    sets_replaced 0 (bytes_down 9 x) m (omega (arith, long)) ∙ replaced_whole (bytes_down 9 x) m long

pub frame_last : (frame : Frame) → frame.length ≤ 9 → take (9 - (9 - frame.length)) (drop (9 - frame.length) (bytes_down 9 frame.value)) ≡ frame_bytes frame
unfolding frame_bytes
frame_last frame small =
    let all : frame.length + (9 - frame.length) ≡ 9 = omega (arith, small) in
    let low : drop (9 - frame.length) (bytes_down 9 frame.value) ≡ bytes_down frame.length frame.value =
    rw all at (low_bytes (9 - frame.length) frame.length frame.value) in
    rw low (take_all (9 - (9 - frame.length)) (bytes_down frame.length frame.value) (omega (arith, down_length frame.length frame.value, small)))

pub spelt_gave : (frame : Frame) → frame.length ≤ 9 → (area m bytes : List ℕ) {t : List ℕ} {command : Command} {at end : ℕ} {out m' area' out' : List ℕ}
    → bytes ≡ bytes_down 9 frame.value → Gave t command (effect t command (take (9 - (9 - frame.length)) (drop (9 - frame.length) bytes)) area m) at out m' area' out' end
    → Gave t command (effect t command (frame_bytes frame) area m) at out m' area' out' end
spelt_gave frame small area m bytes same gave = rw (← frame_last frame small, ← same) gave

-- ---- the line feed of a line that can be read, and of one that can't

-- the number of a line has 64 bits
line_number : (n : ℕ) → n < 2 ^ 64 → min (n + 1) (2 ^ 64 - 1) ≡ next_line n
line_number n low =
    ⊎_elim
    (λ (below : n < 2 ^ 64 - 1). rw (lt-ltb n (2 ^ 64 - 1) below) (omega arith))
    (λ (most : 2 ^ 64 - 1 ≤ n). rw (le-ltb n (2 ^ 64 - 1) most) (omega (arith, low, most)))
    (lt_or_le n (2 ^ 64 - 1))

module _ (t : List ℕ) (p : Progress) (m area out : List ℕ) (at : ℕ) {reading : Option Command} (reads : reading ≡ command_of p.reader) where
  pub line_answered : {command : Command} → reading ≡ Some command → {frame : Frame} → frame ≡ frame_of p.reader
      → {m' area' out' : List ℕ} {end : ℕ} → Gave t command (effect t command (frame_bytes frame) area m) at out m' area' out' end
      → end ≤ at + longest_line → {checked : Option Counts} → Holds checked t m' → {f : Reader} → f ≡ fresh → {n : ℕ} → n ≡ min (p.line + 1) (2 ^ 64 - 1) → p.line < 2 ^ 64
      → LineRun t p m area out m' area' out' at (run_as (progress_as f n false) checked end)
  unfolding line_ended
  line_answered {command} is {frame} framed {m'} {area'} {out'} {end} gave room {checked} known {f} is-fresh {n} numbered low =
      let next : n ≡ next_line p.line = numbered ∙ line_number p.line low in
      let command_is : command_of p.reader ≡ Some command = sym reads ∙ is in
      record {
        kept = rw (command_is, is-fresh, next);
        memory = rw (command_is, ← framed) gave.memory;
        lent = rw (command_is, ← framed) gave.lent;
        line = rw (command_is, ← framed) gave.line;
        room = room;
        known = known;
      }

  pub line_refused : reading ≡ None → {out' : List ℕ} {end : ℕ} → Put at (refusal_line p.line) out out' end
      → {checked : Option Counts} → Holds checked t m → {f : Reader} → f ≡ fresh
      → LineRun t p m area out m area out' at (run_as (progress_as f p.line true) checked end)
  unfolding line_ended
  line_refused is {out'} {end} put {checked} known {f} is-fresh =
      let none : command_of p.reader ≡ None = sym reads ∙ is in
      record {
        kept = rw (none, is-fresh);
        memory = rw none;
        lent = rw none;
        line = rw none put;
        room = omega (arith, put.behind, refusal_length p.line);
        known = known;
      }
