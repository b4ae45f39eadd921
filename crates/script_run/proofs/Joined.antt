-- Parts of a script join to the whole: what two parts print, one after the other, is what both print as one (`parts_join`).
-- Assumes nothing.
use Rattle.std.proofs.Common.{Bool, true, false, List, [], ◌∷◌, ◌++◌, append_assoc, append-nil, ◌≡◌, refl, ap, ◌∙◌, ℕ, eqb, Option, Some, None}
use Rattle.memory.specs.Search.{pick}
use Rattle.memory.specs.Texts.{line_feed}
use Rattle.script.specs.Reader.{next, command_of, frame_of, frame_bytes}
use Rattle.report.specs.Printing.{answer_line, refusal_line}
use Rattle.script.specs.declared.Progress.{Progress}
use Rattle.script_run.specs.Script.{effect}
use Rattle.script_run.specs.Parts.{Board, board, by_reading, line_ended, with_reader, advance, advanced, progress_of, resumed}
use Rattle.script.specs.declared.Command.{Command}

-- ---- one part after another

pub advanced_append : (t : List ℕ) (b : Board) (xs ys : List ℕ) → advanced t b (xs ++ ys) ≡ advanced t (advanced t b xs) ys
unfolding advanced
advanced_append t b [] ys = refl
advanced_append t b (x ∷ xs) ys = advanced_append t (advance t b x) xs ys

pub advanced_one : (t : List ℕ) (b : Board) (xs : List ℕ) (x : ℕ) → advanced t b (xs ++ x ∷ []) ≡ advance t (advanced t b xs) x
unfolding advanced
advanced_one t b xs x = advanced_append t b xs (x ∷ [])

-- behind a line that can't be read, nothing is
advance_ended : (t : List ℕ) (b : Board) (x : ℕ) → b.ended ≡ true → advance t b x ≡ b
unfolding advance
advance_ended t b x e = ap (λ (f : Bool). pick f b (pick (eqb x line_feed) (line_ended t b) (with_reader b (next b.reader x)))) e

pub advanced_ended : (t : List ℕ) (b : Board) (xs : List ℕ) → b.ended ≡ true → advanced t b xs ≡ b
unfolding advanced
advanced_ended t b [] e = refl
advanced_ended t b (x ∷ xs) e = ap (λ (c : Board). advanced t c xs) (advance_ended t b x e) ∙ advanced_ended t b xs e

-- ---- what was printed before is not looked at

abbrev pub printed_before : List ℕ → Board → Board
printed_before text b = board b.reader b.line b.ended b.memory b.area (text ++ b.text)

module _ (t text : List ℕ) where
  ended_before : (r : Option Command) (bytes : List ℕ) (b : Board) → by_reading t r bytes (printed_before text b) ≡ printed_before text (by_reading t r bytes b)
  ended_before (Some command) bytes b =
      let o = effect t command bytes b.area b.memory in
      rw (append_assoc text b.text (answer_line t command o.answer o.area))
  ended_before None bytes b = rw (append_assoc text b.text (refusal_line b.line))

  pub line_ended_before : (b : Board) → line_ended t (printed_before text b) ≡ printed_before text (line_ended t b)
  unfolding line_ended
  line_ended_before b = ended_before (command_of b.reader) (frame_bytes (frame_of b.reader)) b

  advance_before : (b : Board) (x : ℕ) → advance t (printed_before text b) x ≡ printed_before text (advance t b x)
  unfolding advance line_ended
  advance_before b x = go b.ended (eqb x line_feed)
    where
      go : (e l : Bool)
          → pick e (printed_before text b)
          (pick l (by_reading t (command_of b.reader) (frame_bytes (frame_of b.reader)) (printed_before text b)) (with_reader (printed_before text b) (next b.reader x)))
          ≡ printed_before text (pick e b (pick l (by_reading t (command_of b.reader) (frame_bytes (frame_of b.reader)) b) (with_reader b (next b.reader x))))
      go true l = refl
      go false true = ended_before (command_of b.reader) (frame_bytes (frame_of b.reader)) b
      go false false = refl

  pub advanced_before : (b : Board) (xs : List ℕ) → advanced t (printed_before text b) xs ≡ printed_before text (advanced t b xs)
  unfolding advanced
  advanced_before b [] = refl
  advanced_before b (x ∷ xs) = rw (advance_before b x) (advanced_before (advance t b x) xs)

-- ---- the second part begins where the first ended, with nothing printed

pub resumed_before : (b : Board) → b ≡ printed_before b.text (resumed (progress_of b) b.memory b.area)
resumed_before b = rw (append-nil b.text)

pub parts_join : (t : List ℕ) (p : Progress) (m area xs ys : List ℕ) →
    let first = advanced t (resumed p m area) xs in
    advanced t (resumed p m area) (xs ++ ys)
    ≡ printed_before first.text (advanced t (resumed (progress_of first) first.memory first.area) ys)
parts_join t p m area xs ys =
    let first = advanced t (resumed p m area) xs in
    advanced_append t (resumed p m area) xs ys
    ∙ ap (λ (b : Board). advanced t b ys) (resumed_before first)
    ∙ advanced_before t first.text (resumed (progress_of first) first.memory first.area) ys
