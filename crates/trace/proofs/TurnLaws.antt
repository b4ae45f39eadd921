-- Filterings in turn: a part of a row of them is in turn too, and of as many as the period exactly one passes.
-- Assumes nothing.
use Rattle.std.proofs.Common.{Bool, true, false, List, [], ◌∷◌, ◌++◌, ◌≡◌, refl, sym, ap, ◌∙◌, ℕ, zero, suc, ◌+◌, ◌-◌, ◌%◌, ◌≤◌, ◌<◌, add-zero, zero-add, suc-add, mod-eq_of_lt}
use Rattle.std.proofs.Common.{arith, eq-eqb, ne_eqb, eqb, length}
use native.Mathlib.Nat.{add-mod_right}
use Rattle.trace.specs.Filterings.{passed, turns}

passed_join : (a b : List Bool) → passed (a ++ b) ≡ passed a + passed b
passed_join [] b = sym (zero-add (passed b))
passed_join (true ∷ a) b = ap suc (passed_join a b) ∙ sym (suc-add (passed a) (passed b))
passed_join (false ∷ a) b = passed_join a b

pub turns_length : (p d n k : ℕ) → length (turns p d n k) ≡ k
turns_length p d n zero = refl
turns_length p d n (suc k) = ap suc (turns_length p d (n + 1) k)

-- ---- rows one after the other

pub turns_join : (p d n a b : ℕ) → turns p d n a ++ turns p d (n + a) b ≡ turns p d n (a + b)
turns_join p d n zero b = rw (add-zero, zero-add)
turns_join p d n (suc a) b =
    let next : n + suc a ≡ n + 1 + a = omega arith in
    rw (next, suc-add) (ap (λ (l : List Bool). eqb (n % p) d ∷ l) (turns_join p d (n + 1) a b))

turns_cut : (p d n k : ℕ) (a b : List Bool) → turns p d n k ≡ a ++ b → (a ≡ turns p d n (length a)) × (b ≡ turns p d (n + length a) (length b))
turns_cut p d n k [] b e = (refl, rw add-zero (sym e ∙ ap (turns p d n) (sym (turns_length p d n k) ∙ ap length e)))
turns_cut p d n zero (x ∷ a) b e = let z : ◌≡◌ {A = ℕ} 0 1 = cc in absurd (omega arith)
turns_cut p d n (suc k) (x ∷ a) b e =
    let rest : turns p d (n + 1) k ≡ a ++ b = cc in
    let both = turns_cut p d (n + 1) k a b rest in
    let first : eqb (n % p) d ≡ x = cc in
    let next : n + suc (length a) ≡ n + 1 + length a = omega arith in
    (rw (← first) (ap (λ (l : List Bool). eqb (n % p) d ∷ l) both.0), rw next both.1)

pub turns_part : (p d n k : ℕ) (before row after : List Bool) → turns p d n k ≡ before ++ (row ++ after)
    → row ≡ turns p d (n + length before) (length row)
turns_part p d n k before row after e =
    let rest = (turns_cut p d n k before (row ++ after) e).1 in
    (turns_cut p d (n + length before) (length (row ++ after)) row after (sym rest)).0

-- ---- one of every period passes

-- none in a part of the first period without the offset
turns_none : (p d n k : ℕ) → n + k ≤ p → ((j : ℕ) → n ≤ j → j < n + k → j ≡ d → ⊥) → passed (turns p d n k) ≡ 0
turns_none p d n zero low other = refl
turns_none p d n (suc k) low other =
    rw (mod-eq_of_lt {n = n} {m = p} (omega arith), ne_eqb n d (other n (omega arith) (omega arith)))
    (turns_none p d (n + 1) k (omega arith) (λ j least most. other j (omega arith) (omega arith)))

first_turn : (p d : ℕ) → d < p → passed (turns p d 0 p) ≡ 1
first_turn p d h =
    let whole : d + suc (p - d - 1) ≡ p = omega arith in
    ap passed (sym (rw whole at (turns_join p d 0 d (suc (p - d - 1)))))
    ∙ passed_join (turns p d 0 d) (turns p d (0 + d) (suc (p - d - 1)))
    ∙ rw (
      turns_none p d 0 d (omega arith) (λ j least most. omega arith),
      zero-add d,
      mod-eq_of_lt {n = d} {m = p} h,
      eq-eqb d d refl,
      turns_none p d (d + 1) (p - d - 1) (omega arith) (λ j least most. omega arith),
    )

-- the window moved by one: what it loses is what it gains
turns_next : (p d n : ℕ) → passed (turns p d (n + 1) p) ≡ passed (turns p d n p)
turns_next p d n =
    let front = sym (passed_join (turns p d n 1) (turns p d (n + 1) p)) ∙ ap passed (turns_join p d n 1 p) in
    let back = sym (passed_join (turns p d n p) (turns p d (n + p) 1)) ∙ ap passed (turns_join p d n p 1) in
    let same : passed (turns p d (n + p) 1) ≡ passed (turns p d n 1) = rw (add-mod_right n p) in
    let order : 1 + p ≡ p + 1 = omega arith in
    omega (arith, rw order at front, back, same)

pub one_turn : (p d n : ℕ) → d < p → passed (turns p d n p) ≡ 1
one_turn p d zero h = first_turn p d h
one_turn p d (suc n) h =
    let next : suc n ≡ n + 1 = omega arith in
    rw next (turns_next p d n ∙ one_turn p d n h)
