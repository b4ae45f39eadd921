-- Choices, searches, sums and turns over the numbers below a bound: what loops over records are held to.
-- Assumes nothing.
use Rattle.std.specs.Prelude.{ℕ, zero, suc, ◌+◌, Bool, true, false, ◌||◌}

abbrev pub pick {ℓ} : {A : Type ℓ} → Bool → A → A → A
pick true a b = a
pick false a b = b

-- some number below n has the test
abbrev pub any_below : ℕ → (ℕ → Bool) → Bool
any_below zero f = false
any_below (suc n) f = any_below n f || f n

-- the lowest number below n that has the test, or n where none has
abbrev pub least : ℕ → (ℕ → Bool) → ℕ
least zero f = 0
least (suc n) f = pick (f 0) 0 (suc (least n (λ k. f (suc k))))

-- f 0 + f 1 + .. + f (n - 1)
abbrev pub sum_below : ℕ → (ℕ → ℕ) → ℕ
sum_below zero f = 0
sum_below (suc n) f = sum_below n f + f n

-- turn 0, then turn 1, .., then turn (n - 1)
abbrev pub fold {ℓ} : {A : Type ℓ} → ℕ → (ℕ → A → A) → A → A
fold zero turn a = a
fold (suc n) turn a = turn n (fold n turn a)
