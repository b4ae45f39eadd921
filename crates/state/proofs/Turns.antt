-- A check of the rows' ranges: what one turn shows of its row, what no turn has found, and that the depths fit.
-- Assumes nothing.
use Rattle.std.proofs.Common.{Bool, true, false, not, List, ◌≡◌, sym, ap, ℕ, suc, ◌+◌, ◌≤◌, ◌<◌, arith}
use Rattle.memory.specs.Search.{any_below}
use Rattle.memory.proofs.Search.{any_more, any_some, sum_more}
use Rattle.table.specs.Records.{most_queued, ipdu_record, object_record}
use Rattle.table.specs.declared.Counts.{Counts}
use Rattle.table.specs.Check.{depths, Right}
use Rattle.config.specs.Decode.{ipdu_of}
use Rattle.state.specs.Layout.{ipdu_state, object_state}
use Rattle.state.specs.Ranges.{ipdu_in_range, object_in_range, ipdu_out, object_out}

-- a row is out of range; none is
some_out : (n : ℕ) (out : ℕ → Bool) {k : ℕ} → k < n → out k ≡ true → false ≡ not (any_below n out)
some_out n out {k} h e = sym (ap not (any_some n out k h e))

pub none_out : {n k : ℕ} (out : ℕ → Bool) → k ≤ n → n ≤ k → any_below k out ≡ false → true ≡ not (any_below n out)
none_out {n} {k} out low high none = let all : n ≡ k = omega arith in rw (all, none)

module _ (t m : List ℕ) (k : ℕ) {b : Bool} (test : b ≡ ipdu_in_range (ipdu_of (ipdu_record t k)) (ipdu_state m k)) where
  pub ipdu_out_lem : (n : ℕ) → k < n → b ≡ false → false ≡ not (any_below n (ipdu_out t m))
  ipdu_out_lem n h e = some_out n (ipdu_out t m) h (rw (← test, e))

  pub ipdus_upto : b ≡ true → any_below k (ipdu_out t m) ≡ false → any_below (k + 1) (ipdu_out t m) ≡ false
  ipdus_upto e none = any_more (ipdu_out t m) k none (rw (← test, e))

pub depth_sum : (t : List ℕ) (c : Counts) → Right t c → (i : ℕ) → i < c.objects → depths t c i + (object_record t c.ipdus i).depth ≤ most_queued
depth_sum t c r i h = omega (arith, r.depth, sum_more c.objects (suc i) (λ j. (object_record t c.ipdus j).depth) h)

module _ (t : List ℕ) (c : Counts) (i : ℕ) {first : ℕ} (sum : first ≡ depths t c i) where
  module _ (m : List ℕ) {b : Bool} (test : b ≡ object_in_range (object_record t c.ipdus i) first (object_state m i)) where
    pub object_out_lem : i < c.objects → b ≡ false → false ≡ not (any_below c.objects (object_out t c m))
    object_out_lem h e = some_out c.objects (object_out t c m) h (rw (← sum, ← test, e))

    pub objects_upto : b ≡ true → any_below i (object_out t c m) ≡ false → any_below (i + 1) (object_out t c m) ≡ false
    objects_upto e none = any_more (object_out t c m) i none (rw (← sum, ← test, e))
