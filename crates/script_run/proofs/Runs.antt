-- What a script prints is the text of `run` over its calls, then the line for the first that can't be read; the memory that it leaves is
-- that of the calls. Assumes nothing.
use Rattle.std.proofs.Common.{Bool, true, false, List, [], ◌∷◌, ◌++◌, append_assoc, ◌≡◌, refl, sym, ap, ◌∙◌, ℕ, suc}
use Rattle.calls.specs.Answers.{Outcome}
use Rattle.layer.specs.Step.{step, run, memory_after}
use Rattle.report.specs.Printing.{lends, answer_line}
use Rattle.script_run.specs.Script.{call_of, settled, effect, ScriptLine, readable, unreadable, print}
use Rattle.script_run.specs.ScriptCalls.{calls_of, answer_lines, refusal_of}

settled_memory : (b : Bool) (area : List ℕ) (o : Outcome) → (settled b area o).memory ≡ o.memory
settled_memory true area o = refl
settled_memory false area o = refl

settled_answer : (b : Bool) (area : List ℕ) (o : Outcome) → (settled b area o).answer ≡ o.answer
settled_answer true area o = refl
settled_answer false area o = refl

pub print_run : (t : List ℕ) (n : ℕ) (lines : List ScriptLine) (m area : List ℕ)
    → (print t n lines m area).text ≡ answer_lines t lines area (run t (calls_of t lines m area) m) ++ refusal_of n lines
unfolding effect
print_run t n [] m area = refl
print_run t n (unreadable ∷ lines) m area = refl
print_run t n (readable command bytes ∷ lines) m area =
    let o = step t (call_of command bytes area) m in
    let e = effect t command bytes area m in
    let line = answer_line t command o.answer e.area in
    let rest = run t (calls_of t lines e.memory e.area) in
    ap (λ a. answer_line t command a e.area ++ (print t (suc n) lines e.memory e.area).text) (settled_answer (lends command) area o)
    ∙ ap (λ (x : List ℕ). line ++ x) (print_run t (suc n) lines e.memory e.area)
    ∙ sym (append_assoc line (answer_lines t lines e.area (rest e.memory)) (refusal_of (suc n) lines))
    ∙ ap (λ (x : List ℕ). line ++ answer_lines t lines e.area (rest x) ++ refusal_of (suc n) lines) (settled_memory (lends command) area o)

pub print_memory : (t : List ℕ) (n : ℕ) (lines : List ScriptLine) (m area : List ℕ)
    → (print t n lines m area).memory ≡ memory_after t (calls_of t lines m area) m
unfolding effect
print_memory t n [] m area = refl
print_memory t n (unreadable ∷ lines) m area = refl
print_memory t n (readable command bytes ∷ lines) m area =
    let o = step t (call_of command bytes area) m in
    let e = effect t command bytes area m in
    print_memory t (suc n) lines e.memory e.area
    ∙ ap (λ (x : List ℕ). memory_after t (calls_of t lines e.memory e.area) x) (settled_memory (lends command) area o)
