-- Laws for reading a line: a numeral and a line by the variants that they are not.
-- Assumes nothing.
use Rattle.std.proofs.Common.{◌≡◌, ℕ, refl, Option, None}
use Rattle.script.specs.declared.Hex.{Hex}
use Rattle.script.specs.declared.Name.{Name}
use Rattle.script.specs.declared.Reader.{Reader}
use Rattle.script.specs.declared.Reader.TheVariants.{Naming, First, Second, Bytes, TooMany}
use Rattle.script.specs.declared.Numeral.{Numeral}
use Rattle.script.specs.declared.Numeral.TheVariants.{Nothing, Number, Minus, Negative, Wrong}
use Rattle.script.specs.Reading.{if_integer}
use Rattle.script.specs.Reader.{frame_as, frame_of}
use Rattle.script.specs.declared.Command.{Command}

pub no_integer : (n : Numeral) (plain below : ℕ → Option Command) → ((x : ℕ) → n ≡ Number x → ⊥) → ((x : ℕ) → n ≡ Negative x → ⊥)
    → None ≡ if_integer n plain below
no_integer Nothing plain below unlike nor = refl
no_integer (Number n) plain below unlike nor = absurd (unlike n refl)
no_integer Minus plain below unlike nor = refl
no_integer (Negative n) plain below unlike nor = absurd (nor n refl)
no_integer Wrong plain below unlike nor = refl

-- a line of no bytes
pub no_frame : (r : Reader) → ((n : Name) (f s : Numeral) (h : Hex) → r ≡ Bytes n f s h → ⊥) → frame_as 0 0 ≡ frame_of r
unfolding frame_of
no_frame (Naming n) unlike = refl
no_frame (First n f) unlike = refl
no_frame (Second n f s) unlike = refl
no_frame (Bytes n f s h) unlike = absurd (unlike n f s h refl)
no_frame TooMany unlike = refl
