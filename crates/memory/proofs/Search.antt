-- Laws of `any_below`, `least`, `sum_below` and `fold`: what a loop over records has shown.
-- Assumes nothing.
use Rattle.std.proofs.Common.{◌≡◌, ℕ, zero, suc, ◌+◌, ◌<◌, ◌≤◌, Bool, true, false, ◌⊎◌, sym, refl, ap, ◌∙◌, inl, inr, ⊎_elim, suc-le-suc, zero-le, le_refl, le_of_suc-le-suc}
use Rattle.std.proofs.Common.{not-suc-le-zero, add-one, arith}
use native.Mathlib.Numerals.{unary_clauses}
use Rattle.memory.specs.Search.{pick, any_below, least, sum_below, fold}
use Rattle.memory.proofs.Tests.{eq_or_ne, true_or_false, true_not_false, or_split}

-- what holds of each number below n, and of n, holds of each below suc n
pub below_suc {ℓ} : {P : ℕ → Type ℓ} {n : ℕ} → ((k : ℕ) → k < n → P k) → P n → (k : ℕ) → k < suc n → P k
below_suc {P = P} {n = n} all here k h =
    ⊎_elim (λ (e : k ≡ n). rw e here) (λ (ne : k ≡ n → ⊥). all k (omega arith)) (eq_or_ne k n)

pub any_none : (n : ℕ) (f : ℕ → Bool) → ((k : ℕ) → k < n → f k ≡ false) → any_below n f ≡ false
any_none zero f none = refl
any_none (suc n) f none = rw (any_none n f (λ k h. none k (omega arith))) (none n (le_refl (suc n)))

pub any_false : (n : ℕ) (f : ℕ → Bool) → any_below n f ≡ false → (k : ℕ) → k < n → f k ≡ false
any_false zero f e k h = absurd (not-suc-le-zero h)
any_false (suc n) f e k h =
    let parts = or_split (any_below n f) (f n) e in
    below_suc {P = λ k. f k ≡ false} (any_false n f parts.0) parts.1 k h

-- one number more
pub any_more : (f : ℕ → Bool) (n : ℕ) → any_below n f ≡ false → f n ≡ false → any_below (n + 1) f ≡ false
any_more f n none e = rw (add-one, none) e

pub any_some : (n : ℕ) (f : ℕ → Bool) (k : ℕ) → k < n → f k ≡ true → any_below n f ≡ true
any_some n f k h e = ⊎_elim (λ t. t) (λ t. absurd (true_not_false e (any_false n f t k h))) (true_or_false (any_below n f))

pub least_none : (n : ℕ) (f : ℕ → Bool) → ((k : ℕ) → k < n → f k ≡ false) → least n f ≡ n
least_none zero f none = refl
least_none (suc n) f none =
    rw (none 0 (suc-le-suc zero-le)) (ap suc (least_none n (λ k. f (suc k)) (λ k h. none (suc k) (suc-le-suc h))))

pub least_at : (n : ℕ) (f : ℕ → Bool) (i : ℕ) → i < n → ((k : ℕ) → k < i → f k ≡ false) → f i ≡ true → least n f ≡ i
least_at zero f i h none e = absurd (not-suc-le-zero h)
least_at (suc n) f zero h none e = rw e
least_at (suc n) f (suc i) h none e =
    rw (none 0 (suc-le-suc zero-le))
    (ap suc (least_at n (λ k. f (suc k)) i (le_of_suc-le-suc h) (λ k j. none (suc k) (suc-le-suc j)) e))

-- either none has the test, or the least one has it and none before
pub data Found (n : ℕ) (f : ℕ → Bool) : Type 0 where
  nowhere : ((k : ℕ) → k < n → f k ≡ false) → Found n f
  there : (i : ℕ) → i < n → ((k : ℕ) → k < i → f k ≡ false) → f i ≡ true → Found n f

pub found : (n : ℕ) (f : ℕ → Bool) → Found n f
found zero f = nowhere (λ k h. absurd (not-suc-le-zero h))
found (suc n) f = go (found n f) (true_or_false (f n))
  where
    go : Found n f → (f n ≡ true) ⊎ (f n ≡ false) → Found (suc n) f
    go (there i h none e) d = there i (omega arith) none e
    go (nowhere none) (inl e) = there n (le_refl (suc n)) none e
    go (nowhere none) (inr e) = nowhere (below_suc {P = λ k. f k ≡ false} none e)

pub least_before : (n : ℕ) (f : ℕ → Bool) (k : ℕ) → k < least n f → f k ≡ false
least_before n f k h = go (found n f)
  where
    go : Found n f → f k ≡ false
    go (there i j none e) = none k (omega (arith, least_at n f i j none e))
    go (nowhere none) = none k (omega (arith, least_none n f none))

-- what holds of each of two, where it is picked, holds of the one picked
pub picked {ℓ κ} : {A : Type ℓ} (P : A → Type κ) (b : Bool) (x y : A) → (b ≡ true → P x) → (b ≡ false → P y) → P (pick b x y)
picked P true x y p q = p refl
picked P false x y p q = q refl

-- the sum of more numbers is no smaller
pub sum_more : (n k : ℕ) (f : ℕ → ℕ) → k ≤ n → sum_below k f ≤ sum_below n f
sum_more zero zero f h = zero-le
sum_more zero (suc k) f h = absurd (omega arith)
sum_more (suc n) k f h =
    ⊎_elim
    (λ (e : k ≡ suc n). rw e (omega arith))
    (λ (ne : k ≡ suc n → ⊥). omega (arith, sum_more n k f (omega arith)))
    (eq_or_ne k (suc n))

-- what each turn keeps holds after all of them
pub fold_keeps {ℓ κ} : {A : Type ℓ} (P : A → Type κ) (n : ℕ) (turn : ℕ → A → A)
    → ((k : ℕ) → k < n → (a : A) → P a → P (turn k a)) → (a : A) → P a → P (fold n turn a)
fold_keeps P zero turn keeps a h = h
fold_keeps P (suc n) turn keeps a h = keeps n (le_refl (suc n)) (fold n turn a) (fold_keeps P n turn (λ k b. keeps k (omega arith)) a h)

-- what no turn changes is as it was
pub fold_view {ℓ κ} : {A : Type ℓ} {B : Type κ} (view : A → B) (n : ℕ) (turn : ℕ → A → A) (a : A)
    → ((k : ℕ) → k < n → view (turn k (fold k turn a)) ≡ view (fold k turn a)) → view (fold n turn a) ≡ view a
fold_view view zero turn a keeps = refl
fold_view view (suc n) turn a keeps = keeps n (le_refl (suc n)) ∙ fold_view view n turn a (λ k h. keeps k (omega (arith, h)))

-- what turn j alone changes is as turn j left it
pub fold_at {ℓ κ} : {A : Type ℓ} {B : Type κ} (view : A → B) (n : ℕ) (turn : ℕ → A → A) (a : A) (j : ℕ) → j < n
    → ((k : ℕ) → k < n → (k ≡ j → ⊥) → view (turn k (fold k turn a)) ≡ view (fold k turn a))
    → view (fold n turn a) ≡ view (turn j (fold j turn a))
fold_at view zero turn a j h keeps = absurd (not-suc-le-zero h)
fold_at view (suc n) turn a j h keeps =
    ⊎_elim
    (λ (e : n ≡ j). rw e refl)
    (λ (ne : n ≡ j → ⊥).
    keeps n (le_refl (suc n)) ne ∙ fold_at view n turn a j (omega (arith, h, ne)) (λ k b. keeps k (omega (arith, b))))
    (eq_or_ne n j)

-- ---- turns in another order

-- each turn below n keeps P
abbrev pub Keeps : {A : Type 0} → (A → Type 0) → ℕ → (ℕ → A → A) → Type 0
Keeps {A} P n turn = (k : ℕ) → k < n → (a : A) → P a → P (turn k a)

fewer : {A : Type 0} (P : A → Type 0) (n : ℕ) (turn : ℕ → A → A) → Keeps P (suc n) turn → Keeps P n turn
fewer P n turn keeps k b = keeps k (omega (arith, b))

-- a step that may be moved past each turn may be moved past all of them
pub fold_moves : {A : Type 0} (P : A → Type 0) (step : A → A) (n : ℕ) (turn : ℕ → A → A) → Keeps P n turn
    → ((k : ℕ) → k < n → (a : A) → P a → step (turn k a) ≡ turn k (step a)) → (a : A) → P a → step (fold n turn a) ≡ fold n turn (step a)
fold_moves P step zero turn keeps moves a h = refl
fold_moves P step (suc n) turn keeps moves a h =
    moves n (le_refl (suc n)) (fold n turn a) (fold_keeps P n turn (fewer P n turn keeps) a h)
    ∙ ap (turn n) (fold_moves P step n turn (fewer P n turn keeps) (λ k b. moves k (omega (arith, b))) a h)

-- two rounds of turns are one, where each turn of the first round may be moved past the turns before it of the second
pub fold_joins : {A : Type 0} (P : A → Type 0) (n : ℕ) (first second both : ℕ → A → A) → Keeps P n first → Keeps P n second
    → ((j k : ℕ) → j < k → k < n → (a : A) → P a → first k (second j a) ≡ second j (first k a))
    → ((k : ℕ) → k < n → (a : A) → P a → second k (first k a) ≡ both k a) → (a : A) → P a → fold n second (fold n first a) ≡ fold n both a
fold_joins P zero first second both keeps keeps' moves joins a h = refl
fold_joins {A} P (suc n) first second both keeps keeps' moves joins a h =
    ap (second n)
    (sym
    (fold_moves P (first n) n second (fewer P n second keeps') (λ j b. moves j n b (le_refl (suc n))) (fold n first a) before))
    ∙ joins n (le_refl (suc n)) (fold n second (fold n first a)) (fold_keeps P n second (fewer P n second keeps') (fold n first a) before)
    ∙ ap (both n)
    (fold_joins P n first second both (fewer P n first keeps) (fewer P n second keeps') (λ j k b d. moves j k b (omega (arith, d)))
    (λ k b. joins k (omega (arith, b))) a h)
  where
    before : P (fold n first a)
    before = fold_keeps P n first (fewer P n first keeps) a h

-- ---- a loop as a fold: one turn more, and all of them

module _ {A : Type 0} (turn : ℕ → A → A) (k : ℕ) (a start : A) (so_far : a ≡ fold k turn start) where
  pub turn_more : (b : A) → b ≡ turn k a → b ≡ fold (k + 1) turn start
  turn_more b e = simp unary_clauses (e ∙ ap (turn k) so_far)

  pub turns_done : (n : ℕ) → k ≤ n → n ≤ k → a ≡ fold n turn start
  turns_done n most least =
      let all : k ≡ n = omega arith in
      rw all at so_far
