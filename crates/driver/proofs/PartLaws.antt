-- What the functions that run a part cite: laws over plain values. Assumes nothing.
use Rattle.std.proofs.Common.{false, List, [], ◌∷◌, ◌++◌, ◌≡◌, ap, ◌∙◌, ℕ, suc, ◌+◌, ◌-◌, ◌≤◌, ◌<◌}
use Rattle.std.proofs.Common.{arith, ne_eqb, length, take, drop, get_or, length-drop, take-suc, get_or-drop}
use Rattle.memory.specs.Texts.{line_feed, Put}
use Rattle.script.specs.declared.Reader.{Reader}
use Rattle.script.specs.Reader.{next}
use Rattle.report.specs.Printing.{refusal_line, longest_line}
use Rattle.report.proofs.StatusLines.{refusal_length}
use Rattle.script.specs.declared.Progress.{Progress}
use Rattle.script_run.specs.Parts.{Board, with_reader, advance, advanced}
use Rattle.script_run.proofs.Joined.{advanced_one}

-- ---- the bytes of a line

module _ (part : List ℕ) (from at : ℕ) (low : from ≤ at) where
  -- one byte more of the line, which is no line feed
  pub scan_more : at < length part → (reader line : Reader)
      → ((t : List ℕ) (b : Board) → b.ended ≡ false → b.reader ≡ reader → advanced t b (take (at - from) (drop from part)) ≡ with_reader b line)
      → (get_or part at 0 ≡ line_feed → ⊥)
      → (t : List ℕ) (b : Board) → b.ended ≡ false → b.reader ≡ reader
      → advanced t b (take (at + 1 - from) (drop from part)) ≡ with_reader b (next line (get_or part at 0))
  unfolding advance
  scan_more inside reader line runs other t b going same =
      let k : ℕ = at - from in
      let more : at + 1 - from ≡ suc k = omega arith in
      let there : from + k ≡ at = omega arith in
      let x : ℕ = get_or part at 0 in
      let one : take (suc k) (drop from part) ≡ take k (drop from part) ++ get_or (drop from part) k 0 ∷ [] =
      take-suc (drop from part) k 0 (omega (arith, length-drop from part)) in
      let value : get_or (drop from part) k 0 ≡ x = get_or-drop from part k 0 ∙ ap (λ (i : ℕ). get_or part i 0) there in
      ap (λ (n : ℕ). advanced t b (take n (drop from part))) more
      ∙ ap (λ (l : List ℕ). advanced t b l) one
      ∙ ap (λ (y : ℕ). advanced t b (take k (drop from part) ++ y ∷ [])) value
      ∙ advanced_one t b (take k (drop from part)) x
      ∙ ap (λ (c : Board). advance t c x) (runs t b going same)
      ∙ rw (going, ne_eqb x line_feed other)

-- no byte of a line yet
pub scan_none : (part : List ℕ) (from : ℕ) (reader : Reader) (t : List ℕ) (b : Board) → b.reader ≡ reader
    → advanced t b (take (from - from) (drop from part)) ≡ with_reader b reader
unfolding advanced
scan_none part from reader t b same =
    let none : from - from ≡ 0 = omega arith in
    ap (λ (n : ℕ). advanced t b (take n (drop from part))) none ∙ ap (λ (r : Reader). with_reader b r) same

-- ---- the end of the script

module _ (p : Progress) (out : List ℕ) where
  pub finish_room : longest_line ≤ length out → {after : List ℕ} {end : ℕ} → Put 0 (refusal_line p.line) out after end → end ≤ length out
  finish_room long put = omega (arith, put.behind, refusal_length p.line)
