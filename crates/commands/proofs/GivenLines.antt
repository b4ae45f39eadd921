-- A command's call and its line: started, refused or admitted. The laws ask for plain values, so that a search finds them.
-- Assumes nothing.
use Rattle.std.proofs.Common.{Bool, true, false, List, [], ◌∷◌, ◌++◌, ◌≡◌, refl, sym, ap, ◌∙◌, ℕ, ◌+◌, ◌≤◌, arith, length, drop, Option, Some, Ok, Err}
use Rattle.memory.specs.Texts.{line_feed, digit_of, Put}
use Rattle.table.specs.declared.Counts.{Counts}
use Rattle.state.specs.Layout.{memory_size, area_size}
use Rattle.state.specs.Ranges.{Ready}
use Rattle.calls.specs.declared.Refusal.{Refusal}
use Rattle.calls.specs.Answers.{Answer}
use Rattle.calls.specs.Answers.{number_of, Outcome, outcome}
use Rattle.layer.specs.Admission.{Admission}
use Rattle.layer.specs.Admission.{Admits, working_memory, on_working_memory}
use Rattle.layer.specs.Step.{start, step}
use Rattle.layer.proofs.Admitted.{on_working_memory_lem}
use Rattle.script.specs.declared.Command.{Command}
use Rattle.report.specs.Printing.{lends, answer_line, longest_line}
use Rattle.report.proofs.StatusLines.{answer_length}
use Rattle.script_run.specs.Script.{effect, own}
use Rattle.commands.specs.Given.{Checked, Holds, is_start, Gave}
use Rattle.commands.proofs.Performed.{long_for, effect_refused, effect_admitted, effect_start, fits_area, refused_line, started_line, checked_after, start_holds}

-- the area that a call was lent is as long as before
pub area_kept : {lent : Bool} {before after : ℕ} → (lent ≡ true → area_size ≤ before) → after ≡ before → lent ≡ true → area_size ≤ after
area_kept long same lent = rw same (long lent)

pub admitted_lent : (command : Command) {t m : List ℕ} {fits : Bool} {x : Admission} {c : Counts} {n : ℕ} → Admits t m fits x → x ≡ Ok c
    → fits ≡ long_for command n → lends command ≡ true → area_size ≤ n
admitted_lent command {t} {m} {fits} {x} {c} {n} admits told long lent = fits_area command fits n (admits.opens c told).area long lent

-- what was given, its line's end, and what is known of the memory left
abbrev Gives : List ℕ → Command → Outcome → ℕ → List ℕ → List ℕ → List ℕ → List ℕ → ℕ → Type 0 → Type 0
Gives t command o at out m' area' out' end known = Gave t command o at out m' area' out' end × ((end ≤ at + longest_line) × known)

module _ {t : List ℕ} {command : Command} {at : ℕ} {out out' : List ℕ} {end : ℕ} where
  gave : {o : Outcome} {r : Answer} {n b : List ℕ} → outcome r n b ≡ o → Put at (answer_line t command r b) out out' end → Gave t command o at out n b out' end
  gave same put = rw (← same) record { memory = refl; lent = refl; line = put }

  -- a call that was admitted, over the first bytes of memory
  pub gave_own : {c : Counts} (bytes area : List ℕ) {m : List ℕ} {r : Answer} {n b : List ℕ} → Checked t c m
      → outcome r n b ≡ own t c command bytes area (working_memory m) → Ready t c n → Put at (answer_line t command r b) out out' end
      → Gives t command (on_working_memory (own t c command bytes area) m) at out (n ++ drop memory_size m) b out' end (Checked t c (n ++ drop memory_size m))
  gave_own {c} bytes area {m} {r} {n} {b} checked does ready put = (
    gave (on_working_memory_lem (own t c command bytes area) m r n b does) put,
    (omega (arith, put.behind, answer_length t c command r b checked.ready.right), checked_after t c m n checked ready),
  )

  -- a status alone
  gave_status : {known : Type 0} {o : Outcome} {r : Answer} {n b : List ℕ} → outcome r n b ≡ o → answer_line t command r b ≡ digit_of (number_of r) ∷ line_feed ∷ []
      → Put at (digit_of (number_of r) ∷ line_feed ∷ []) out out' end → known → Gives t command o at out n b out' end known
  gave_status same line put known = (gave same (rw line put), (omega (arith, put.behind), known))

  pub gave_start : (checked : Option Counts) (bytes area m : List ℕ) {r : Answer} {n : List ℕ} {is : Bool} → is ≡ is_start command → is ≡ true
      → outcome r n [] ≡ step t start m → Put at (digit_of (number_of r) ∷ line_feed ∷ []) out out' end → Holds checked t m
      → Gives t command (effect t command bytes area m) at out n area out' end (Holds checked t n)
  gave_start checked bytes area m {r} {n} {is} same taken does put holds =
      let starts : is_start command ≡ true = sym same ∙ taken in
      gave_status
      (ap (λ (o : Outcome). outcome o.answer o.memory area) does ∙ sym (effect_start t command bytes area m starts))
      (started_line t command r area starts) put (rw (← ap (λ (o : Outcome). o.memory) does) at (start_holds t m checked holds))

  module _ {m : List ℕ} {fits is : Bool} (bytes area : List ℕ) {x : Admission} (admits : Admits t m fits x)
      (long : fits ≡ long_for command (length area)) (same : is ≡ is_start command) (other : is ≡ false) where
    pub gave_refused : {known : Type 0} {r : Refusal} → x ≡ Err r → Put at (digit_of (number_of (Err r)) ∷ line_feed ∷ []) out out' end → known
        → Gives t command (effect t command bytes area m) at out m area out' end known
    gave_refused {known} {r} told put holds =
        gave_status (sym (effect_refused t m fits command bytes area x admits long (sym same ∙ other) r told))
        (refused_line t r command area) put holds

    pub gave_admitted : {c : Counts} {n b : List ℕ} → x ≡ Ok c
        → Gives t command (on_working_memory (own t c command bytes area) m) at out n b out' end (Checked t c n)
        → Gives t command (effect t command bytes area m) at out n b out' end (Holds (Some c) t n)
    gave_admitted {c} told given = rw (effect_admitted t m fits command bytes area x admits long (sym same ∙ other) c told) given
