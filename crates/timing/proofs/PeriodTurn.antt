-- The search for I-PDUs with a period. The laws ask for plain values, so that a search finds them. Assumes nothing.
use Rattle.std.proofs.Common.{Bool, false, List, ⊎_elim, ◌≡◌, sym, ◌∙◌, ℕ, zero, suc, ◌+◌, ◌≤◌, ◌<◌, le_refl, arith}
use Rattle.memory.specs.Search.{fold}
use Rattle.memory.proofs.Search.{turn_more}
use Rattle.memory.proofs.Tests.{eq_or_ne}
use Rattle.config.specs.declared.Ipdu.{Ipdu}
use Rattle.transmission.specs.Requests.{ipdu}
use Rattle.timing.specs.Periods.{has_period, period_turn}
use Rattle.timing.specs.Inner.{NextPeriod}

-- ---- none passed, one more, the end; and what a turn of those passed leaves

module _ (t : List ℕ) (from : ℕ) where
  pub none_before : {n : ℕ} → from ≤ n → NextPeriod t from n from
  none_before most = record { low = le_refl from; high = most; none = λ j least below. absurd (omega arith) }

  module _ {n k : ℕ} (so_far : NextPeriod t from n k) where
    pub none_more : {found : Bool} {p : Ipdu} → k < n → p ≡ ipdu t k → found ≡ has_period p.mode → found ≡ false → NextPeriod t from n (k + 1)
    none_more below same e missed =
        record { low = omega (arith, so_far.low); high = omega (arith, below); none = each }
      where
        each : (j : ℕ) → from ≤ j → j < k + 1 → has_period (ipdu t j).mode ≡ false
        each j least under =
            ⊎_elim
            (λ (here : j ≡ k). rw (here, ← same) (sym e ∙ missed))
            (λ (other : j ≡ k → ⊥). so_far.none j least (omega (arith, under, other)))
            (eq_or_ne j k)

    pub passed_over : (on : Bool) (m : List ℕ) → fold k (period_turn on t) m ≡ fold from (period_turn on t) m
    passed_over on m = go k so_far.low so_far.none
      where
        go : (r : ℕ) → from ≤ r → ((j : ℕ) → from ≤ j → j < r → has_period (ipdu t j).mode ≡ false) → fold r (period_turn on t) m ≡ fold from (period_turn on t) m
        go zero least none = let same : from ≡ 0 = omega arith in rw same
        go (suc r) least none =
            ⊎_elim
            (λ (same : from ≡ suc r). rw same)
            (λ (other : from ≡ suc r → ⊥).
            rw (none r (omega (arith, least, other)) (le_refl (suc r))) (go r (omega (arith, least, other)) (λ j low high. none j low (omega (arith, high)))))
            (eq_or_ne from (suc r))

-- the turns of the I-PDUs passed, up to the next with a period
module _ (on : Bool) (t : List ℕ) (m₀ m : List ℕ) where
  pub first_turn : {n r : ℕ} → NextPeriod t 0 n r → m₀ ≡ fold r (period_turn on t) m₀
  first_turn next = sym (passed_over t 0 next on m₀)

  pub next_turn : (k : ℕ) {n r : ℕ} {b : List ℕ} → m ≡ fold k (period_turn on t) m₀ → b ≡ period_turn on t k m → NextPeriod t (k + 1) n r
      → b ≡ fold r (period_turn on t) m₀
  next_turn k so_far does next = turn_more (period_turn on t) k m m₀ so_far _ does ∙ sym (passed_over t (k + 1) next on m₀)
