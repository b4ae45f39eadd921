-- A case of a script is computed by the fast step of crates/cases. Assumes nothing.
use Rattle.std.proofs.Common.{List, [], ◌∷◌, ◌++◌, ◌≡◌, refl, ap, ◌∙◌, ℕ, suc, replicate}
use Rattle.state.specs.Layout.{memory_size, area_size}
use Rattle.calls.specs.Answers.{Outcome}
use Rattle.layer.specs.Step.{start, stop, step}
use Rattle.script.specs.declared.Command.{Command}
use Rattle.script.specs.Characters.{codes}
use Rattle.report.specs.Printing.{lends, answer_line, refusal_line}
use Rattle.script_run.specs.Script.{call_of, settled, effect, ScriptLine, readable, unreadable, lines_of, print, begun}
use Rattle.cases.proofs.Computed.{step_fast, step_fast_lem}
use Rattle.script_cases.specs.ScriptCases.{ScriptCase, Prints, AllPrint}

abbrev effect_fast : List ℕ → Command → List ℕ → List ℕ → List ℕ → Outcome
effect_fast t command bytes area m = settled (lends command) area (step_fast t (call_of command bytes area) m)

effect_fast_lem : (t : List ℕ) (command : Command) (bytes area m : List ℕ) → effect t command bytes area m ≡ effect_fast t command bytes area m
unfolding effect
effect_fast_lem t command bytes area m = ap (settled (lends command) area) (step_fast_lem t (call_of command bytes area) m)

abbrev answered_fast : List ℕ → Command → Outcome → List ℕ
answered_fast t command o = answer_line t command o.answer o.area

abbrev print_fast : List ℕ → ℕ → List ScriptLine → List ℕ → List ℕ → List ℕ
print_fast t n [] m area = []
print_fast t n (unreadable ∷ lines) m area = refusal_line n
print_fast t n (readable command bytes ∷ lines) m area =
    answered_fast t command (effect_fast t command bytes area m)
    ++ print_fast t (suc n) lines (effect_fast t command bytes area m).memory (effect_fast t command bytes area m).area

print_fast_lem : (t : List ℕ) (n : ℕ) (lines : List ScriptLine) (m area : List ℕ) → (print t n lines m area).text ≡ print_fast t n lines m area
print_fast_lem t n [] m area = refl
print_fast_lem t n (unreadable ∷ lines) m area = refl
print_fast_lem t n (readable command bytes ∷ lines) m area =
    let o = effect_fast t command bytes area m in
    ap (λ (e : Outcome). answered_fast t command e ++ (print t (suc n) lines e.memory e.area).text) (effect_fast_lem t command bytes area m)
    ∙ ap (λ (rest : List ℕ). answered_fast t command o ++ rest) (print_fast_lem t (suc n) lines o.memory o.area)

abbrev begun_fast : List ℕ → List ℕ → List ℕ
begun_fast t m = (step_fast t stop (step_fast t start m).memory).memory

begun_fast_lem : (t m : List ℕ) → begun t m ≡ begun_fast t m
begun_fast_lem t m =
    ap (λ (o : Outcome). (step t stop o.memory).memory) (step_fast_lem t start m)
    ∙ ap (λ (o : Outcome). o.memory) (step_fast_lem t stop (step_fast t start m).memory)

abbrev pub Computes : ScriptCase → Type 0
Computes c =
    print_fast c.table 1 (lines_of (codes c.script)) (begun_fast c.table (replicate memory_size 165)) (replicate area_size 170) ≡ codes c.output

holds : (c : ScriptCase) → Computes c → Prints c
holds c e =
    let t = c.table in
    let lines = lines_of (codes c.script) in
    let area : List ℕ = replicate area_size 170 in
    let m : List ℕ = replicate memory_size 165 in
    ap (λ (x : List ℕ). (print t 1 lines x area).text) (begun_fast_lem t m) ∙ print_fast_lem t 1 lines (begun_fast t m) area ∙ e

abbrev pub AllCompute : List ScriptCase → Type 0
AllCompute [] = Unit {0}
AllCompute (c ∷ cs) = Computes c × AllCompute cs

pub all_print : (cs : List ScriptCase) → AllCompute cs → AllPrint cs
all_print [] e = tt
all_print (c ∷ cs) e = (holds c e.0, all_print cs e.1)
