-- A command over table, memory and area: what is known of them, so that they need not be checked again, and what the call gave.
-- Assumes nothing.
use Rattle.std.specs.Prelude.{Bool, true, false, List, ◌≡◌, ℕ, ◌≤◌, length, Option, Some, None, Ok}
use Rattle.memory.specs.Texts.{Put}
use Rattle.table.specs.declared.Counts.{Counts}
use Rattle.table.specs.Check.{check}
use Rattle.state.specs.Layout.{memory_size}
use Rattle.state.specs.Ranges.{Ready}
use Rattle.calls.specs.Answers.{Outcome}
use Rattle.layer.specs.Admission.{working_memory, on_working_memory}
use Rattle.script.specs.declared.Command.{Command}
use Rattle.script.specs.declared.Command.TheVariants.{Start, Stop, Send, Initialise, Object, Periodic, Indication, Confirm, Tick}
use Rattle.report.specs.Printing.{answer_line}
use Rattle.script_run.specs.Script.{effect, own}

-- ---- what is known of table and memory, so that they need not be checked again

pub record Checked (t : List ℕ) (c : Counts) (m : List ℕ) : Type 0 where
  pub accepted : check t ≡ Ok c
  pub long : memory_size ≤ length m
  pub ready : Ready t c (working_memory m)

abbrev pub Holds : Option Counts → List ℕ → List ℕ → Type 0
Holds (Some c) t m = Checked t c m
Holds None t m = Unit

-- the one command whose call does not ask that the layer runs
abbrev pub is_start : Command → Bool
is_start Start = true
is_start Stop = false
is_start (Send i v) = false
is_start (Initialise i v) = false
is_start (Object ask i) = false
is_start (Periodic on) = false
is_start (Indication k good) = false
is_start (Confirm k good) = false
is_start Tick = false

-- memory and area are those that the call gave, and its line is put into `out` from place `at` on
pub record Gave (t : List ℕ) (command : Command) (o : Outcome) (at : ℕ) (out m' area' out' : List ℕ) (end : ℕ) : Type 0 where
  pub memory : m' ≡ o.memory
  pub lent : area' ≡ o.area
  pub line : Put at (answer_line t command o.answer o.area) out out' end

-- the same of what the command does, and of what an admitted one does itself
abbrev pub EffectGave : List ℕ → Command → (bytes m area : List ℕ) → ℕ → (out m' area' out' : List ℕ) → ℕ → Type 0
EffectGave t command bytes m area at out m' area' out' end = Gave t command (effect t command bytes area m) at out m' area' out' end

abbrev pub OwnGave : List ℕ → Counts → Command → (bytes m area : List ℕ) → ℕ → (out m' area' out' : List ℕ) → ℕ → Type 0
OwnGave t c command bytes m area at out m' area' out' end = Gave t command (on_working_memory (own t c command bytes area) m) at out m' area' out' end
