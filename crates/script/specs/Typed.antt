-- W-201: the commands, with their bytes, that a line can say: each number and value fits 32 bits, and only an indication has bytes.
-- Assumes nothing.
use Rattle.std.specs.Prelude.{◌≡◌, ℕ, ◌^◌, ◌<◌, Bool, true, false, ◌⊎◌, List, [], ◌∷◌}
use Rattle.memory.specs.Bytes.{Bytes}
use Rattle.script.specs.declared.Command.{Command}
use Rattle.script.specs.declared.Command.TheVariants.{Start, Stop, Send, Initialise, Object, Periodic, Indication, Confirm, Tick}
use Rattle.script.specs.Text.{numbers_of, values_of, text}

abbrev pub AllBelow : ℕ → List ℕ → Type 0
AllBelow limit [] = Unit {0}
AllBelow limit (n ∷ ns) = (n < limit) × AllBelow limit ns

-- the command has bytes beside it
abbrev pub carries : Command → Bool
carries Start = false
carries Stop = false
carries (Send i v) = false
carries (Initialise i v) = false
carries (Object ask i) = false
carries (Periodic on) = false
carries (Indication k good) = true
carries (Confirm k good) = false
carries Tick = false

pub record TypedCommand (command : Command) (bytes : List ℕ) : Type 0 where
  pub numbers_fit : AllBelow (2 ^ 32) (numbers_of command)
  pub values_fit : AllBelow (2 ^ 32) (values_of command)
  pub are_bytes : Bytes bytes
  pub none_beside : carries command ≡ false → bytes ≡ []

-- the line is the command's: its value stands as it is, or signed
abbrev pub IsLineOf : List ℕ → Command → List ℕ → Type 0
IsLineOf line command bytes = (line ≡ text false command bytes) ⊎ (line ≡ text true command bytes)
