-- Laws of lists of characters: a run over a list ends with its last element, and `same` is equality.
-- Assumes nothing.
use Rattle.std.proofs.Common.{◌≡◌, ℕ, zero, suc, ◌<◌, true, eqb, List, [], ◌∷◌, ◌++◌, sym, refl, ap, ◌∙◌, ap₂, eq-eqb, eqb-true}
use Rattle.memory.proofs.Tests.{and_split}
use Rattle.memory.specs.Bytes.{Bytes}
use Rattle.script.specs.Reading.{same}

-- what takes the elements of a list one after the other takes the last one last
module _ {A : Type 0} (step : A → ℕ → A) (run : A → List ℕ → A) (none : (a : A) → run a [] ≡ a)
    (more : (a : A) (b : ℕ) (l : List ℕ) → run a (b ∷ l) ≡ run (step a b) l) where
  pub run_last : (a : A) (l : List ℕ) (b : ℕ) → run a (l ++ b ∷ []) ≡ step (run a l) b
  run_last a [] b = more a b [] ∙ none (step a b) ∙ sym (ap (λ (x : A). step x b) (none a))
  run_last a (c ∷ l) b = more a c (l ++ b ∷ []) ∙ run_last (step a c) l b ∙ sym (ap (λ (x : A). step x b) (more a c l))

pub same_itself : (l : List ℕ) → same l l ≡ true
same_itself [] = refl
same_itself (b ∷ l) = rw (eq-eqb b b refl) (same_itself l)

pub same_equal : (k l : List ℕ) → same k l ≡ true → k ≡ l
same_equal [] [] e = refl
same_equal [] (b ∷ l) e = cc
same_equal (a ∷ k) [] e = cc
same_equal (a ∷ k) (b ∷ l) e =
    let parts = and_split (eqb a b) (same k l) e in
    ap₂ ◌∷◌ (eqb-true a b parts.0) (same_equal k l parts.1)

-- bytes with one more are bytes
pub bytes_more : (l : List ℕ) (b : ℕ) → Bytes l → b < 256 → Bytes (l ++ b ∷ [])
bytes_more [] b bs low zero = low
bytes_more [] b bs low (suc i) = bs 0
bytes_more (a ∷ l) b bs low zero = bs 0
bytes_more (a ∷ l) b bs low (suc i) = bytes_more l b (λ j. bs (suc j)) low i
