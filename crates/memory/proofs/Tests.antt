-- Small laws: an equation or none, `&&`, and a table's entries.
-- Assumes nothing.
use Rattle.std.proofs.Common.{◌≡◌, ℕ, zero, suc, ◌<◌, ◌≤◌, Bool, true, false, ◌&&◌, ◌||◌, ltb, ◌⊎◌}
use Rattle.std.proofs.Common.{List, [], ◌∷◌, get_or, sym, refl, ◌∙◌, inl, inr, le_of_suc-le-suc, not-suc-le-zero, arith, ltb-true}
use native.Mathlib.Decide.{dec_lt, ℕ_discrete}
use Rattle.memory.specs.Bytes.{Bytes}
use Rattle.memory.specs.Search.{pick}

pub lt_or_le : (a b : ℕ) → (a < b) ⊎ (b ≤ a)
lt_or_le a b = elim (dec_lt a b) [ yes h ↦ inl h | no h ↦ inr (omega arith) ]

pub eq_or_ne : (a b : ℕ) → (a ≡ b) ⊎ (a ≡ b → ⊥)
eq_or_ne a b = elim (ℕ_discrete a b) [ yes h ↦ inl h | no h ↦ inr h ]

pub and_split : (a b : Bool) → (a && b) ≡ true → (a ≡ true) × (b ≡ true)
and_split true b e = (refl, e)
and_split false b e = let z : false ≡ true = e in (e, cc)

-- a chain of tests, `b && c && ..`: where it holds, each holds
abbrev pub chain : Bool → List Bool → Bool
chain b [] = b
chain b (c ∷ cs) = chain (b && c) cs

abbrev pub Each : Bool → List Bool → Type 0
Each b [] = b ≡ true
Each b (c ∷ cs) = (b ≡ true) × Each c cs

pub each_true : (b : Bool) (cs : List Bool) → chain b cs ≡ true → Each b cs
each_true b [] e = e
each_true b (c ∷ cs) e = go cs (each_true (b && c) cs e)
  where
    go : (cs : List Bool) → Each (b && c) cs → (b ≡ true) × Each c cs
    go [] h = and_split b c h
    go (d ∷ ds) h = let both = and_split b c h.0 in (both.0, (both.1, h.1))

pub true_or_false : (b : Bool) → (b ≡ true) ⊎ (b ≡ false)
true_or_false true = inl refl
true_or_false false = inr refl

-- what cannot be true is false
pub never_true : (b : Bool) → (b ≡ true → ⊥) → false ≡ b
never_true true never = absurd (never refl)
never_true false never = refl

pub or_cases : (a b : Bool) → (a || b) ≡ true → (a ≡ true) ⊎ (b ≡ true)
or_cases true b e = inl refl
or_cases false b e = inr e

pub or_split : (a b : Bool) → (a || b) ≡ false → (a ≡ false) × (b ≡ false)
or_split true b e = (e, let z : true ≡ false = e in cc)
or_split false b e = (refl, e)

pub true_not_false : {b : Bool} → b ≡ true → b ≡ false → ⊥
true_not_false {b} e f = let z : ◌≡◌ {A = Bool} true false = cc in let y : ◌≡◌ {A = ℕ} 0 1 = cc in omega arith

-- what a callee's test says where `if !test` was not taken, and where it was
pub tested_true : {b p : Bool} → b ≡ p → b ≡ true → p ≡ true
tested_true {b} e f = sym e ∙ f

pub tested_false : {b p : Bool} → b ≡ p → b ≡ false → p ≡ false
tested_false {b} e f = sym e ∙ f

pub and_false : (a : Bool) → (a && false) ≡ false
and_false true = refl
and_false false = refl

-- the list of f 0, f 1, .., f (n - 1): what a table is held to
abbrev pub tabulate : ℕ → (ℕ → ℕ) → List ℕ
tabulate zero f = []
tabulate (suc n) f = f 0 ∷ tabulate n (λ k. f (suc k))

pub tabulate_at : (n : ℕ) (f : ℕ → ℕ) (k : ℕ) → k < n → get_or (tabulate n f) k 0 ≡ f k
tabulate_at zero f k h = absurd (not-suc-le-zero h)
tabulate_at (suc n) f zero h = refl
tabulate_at (suc n) f (suc k) h = tabulate_at n (λ j. f (suc j)) k (le_of_suc-le-suc h)

pub not_found : {A : Type 0} (test found : Bool) (x y : A) → found ≡ test → found ≡ false → y ≡ pick test x y
not_found test found x y e failed = rw (sym e ∙ failed)

pub found_so : {A : Type 0} (test found : Bool) (x y z : A) → found ≡ test → found ≡ true → z ≡ x → z ≡ pick test x y
found_so test found x y z e passed same = rw (sym e ∙ passed) same

-- ---- bytes, by a computed test

abbrev pub all_bytes : List ℕ → Bool
all_bytes [] = true
all_bytes (b ∷ bs) = ltb b 256 && all_bytes bs

pub tested : (bs : List ℕ) → all_bytes bs ≡ true → Bytes bs
tested [] e i = omega arith
tested (b ∷ bs) e zero = ltb-true b 256 (and_split (ltb b 256) (all_bytes bs) e).0
tested (b ∷ bs) e (suc i) = tested bs (and_split (ltb b 256) (all_bytes bs) e).1 i
