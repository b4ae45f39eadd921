-- What the fields of a line are like where it reads as a command.
-- Assumes nothing.
use Rattle.std.proofs.Common.{◌≡◌, ℕ, Bool, true, false, not, ◌||◌, ltb, ◌⊎◌, List, [], ◌∷◌, refl, inl, inr, ⊎_elim, arith, Option, Some, None}
use borrow.Author.Tests.{not-false}
use Rattle.memory.proofs.Tests.{or_split}
use Rattle.memory.specs.Search.{pick}
use Rattle.script.proofs.Numerals.{said}
use Rattle.script.specs.declared.Command.{Command}
use Rattle.script.specs.declared.Numeral.{Numeral}
use Rattle.script.specs.declared.Numeral.TheVariants.{Nothing, Number, Minus, Negative, Wrong}
use Rattle.script.specs.Reading.{four, numeral, is_bytes, are_hex_pairs, if_integer, if_number, of_bytes, same, reading}

pub unreadable : {command : Command} → None ≡ Some command → ⊥
unreadable {command} e = let z : ◌≡◌ {A = ℕ} 0 1 = cc in omega arith

-- a field that has to be a number, or a negative one, is that
pub record IsNumber (negative : Bool) (n : Numeral) (then : ℕ → Option Command) (command : Command) : Type 0 where
  pub value : ℕ
  pub number : n ≡ said negative value
  pub reads : then value ≡ Some command

pub is_integer : {command : Command} (n : Numeral) (plain below : ℕ → Option Command) → if_integer n plain below ≡ Some command
    → IsNumber false n plain command ⊎ IsNumber true n below command
is_integer {command} Nothing plain below e = absurd (unreadable e)
is_integer (Number n) plain below e = inl (record { value = n; number = refl; reads = e })
is_integer {command} Minus plain below e = absurd (unreadable e)
is_integer (Negative n) plain below e = inr (record { value = n; number = refl; reads = e })
is_integer {command} Wrong plain below e = absurd (unreadable e)

pub is_number : {command : Command} (n : Numeral) (then : ℕ → Option Command) → if_number n then ≡ Some command → IsNumber false n then command
is_number n then e = ⊎_elim (λ is. is) (λ is. absurd (unreadable is.reads)) (is_integer n then (λ v. None) e)

-- what a choice of readings chose
pub choice_refused : {command : Command} (b : Bool) (rest : Option Command) → pick b None rest ≡ Some command
    → (b ≡ false) × (rest ≡ Some command)
choice_refused true rest e = absurd (unreadable e)
choice_refused false rest e = (refl, e)

-- a fourth field is whole bytes
pub fourth_bytes : (n f s h : List ℕ) (command : Command) → reading (four n f s h) ≡ Some command → is_bytes h ≡ true
fourth_bytes n f s h command e =
    let first = is_number (numeral f) (λ k. if_number (numeral s) (of_bytes (same n) (is_bytes h) k)) e in
    let second = is_number (numeral s) (of_bytes (same n) (is_bytes h) first.value) first.reads in
    let chosen = choice_refused (ltb 1 second.value || not (is_bytes h)) _ second.reads in
    not-false (is_bytes h) (or_split (ltb 1 second.value) (not (is_bytes h)) chosen.0).1

pub bytes_pairs : (h : List ℕ) → is_bytes h ≡ true → are_hex_pairs h ≡ true
bytes_pairs [] e = refl
bytes_pairs (a ∷ h) e = e
