-- What one turn of the search over I-PDUs shows: the test at its record.
-- Assumes nothing.
use Rattle.std.proofs.Common.{Bool, true, false, not, ◌||◌, List, ◌≡◌, refl, sym, ap, ℕ, ◌+◌, ◌*◌, ◌≤◌, ◌<◌, arith}
use Rattle.memory.specs.Search.{any_below, least}
use Rattle.memory.proofs.Search.{any_more, any_false, least_at, least_none}
use Rattle.table.specs.declared.IpduNumber.{IpduNumber}
use Rattle.table.specs.Records.{ipdu_base, ipdu_record_at, ipdu_record}
use Rattle.table.specs.Rules.{ipdu_right}
use Rattle.table.specs.Check.{wrong_ipdu}

-- the I-PDU of this turn is wrong; none is, up to it; none is
module _ (t : List ℕ) (k : ℕ) {b : Bool} (test : b ≡ ipdu_right (ipdu_record_at (ipdu_base + 16 * k) t)) (none : any_below k (wrong_ipdu t) ≡ false) where
  here : not b ≡ wrong_ipdu t k
  unfolding ipdu_record
  here = ap not test

  pub first_wrong : {n : ℕ} → k < n → b ≡ false → (least n (wrong_ipdu t) < n) × ◌≡◌ {A = IpduNumber} (record { 0 = k }) (record { 0 = least n (wrong_ipdu t) })
  first_wrong {n} h e =
      let same : least n (wrong_ipdu t) ≡ k = least_at n (wrong_ipdu t) k h (any_false k (wrong_ipdu t) none) (rw e at (sym here)) in
      rw same (h, refl)

  pub none_wrong_upto : b ≡ true → any_below (k + 1) (wrong_ipdu t) ≡ false
  none_wrong_upto e = any_more (wrong_ipdu t) k none (rw e at (sym here))

pub none_wrong : (t : List ℕ) {n k : ℕ} → k ≤ n → n ≤ k → any_below k (wrong_ipdu t) ≡ false → least n (wrong_ipdu t) ≡ n
none_wrong t {n} {k} low high none =
    let all : k ≡ n = omega arith in
    least_none n (wrong_ipdu t) (any_false n (wrong_ipdu t) (rw all at none))

pub or_true : (a b : Bool) → b ≡ true → (a || b) ≡ true
or_true true b e = refl
or_true false b e = e

pub or_false : (a : Bool) → (a || false) ≡ a
or_false true = refl
or_false false = refl
