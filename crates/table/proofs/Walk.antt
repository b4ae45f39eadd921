-- The walk over the objects: what holds after i of them, one more, and where it ends. Each law asks for what the callees answered.
-- Assumes nothing.
use Rattle.std.proofs.Common.{Bool, true, false, not, List, ◌≡◌, refl, sym, ap, ◌∙◌, ℕ, suc, ◌+◌, ◌*◌, ◌^◌, ◌≤◌, ◌<◌, zero-le, add-one, arith, below_more, lt-ltb, le-ltb, leb-true, leb}
use Rattle.memory.specs.Search.{least}
use Rattle.memory.proofs.Search.{least_at, least_none}
use Rattle.table.specs.declared.Counts.{Counts}
use Rattle.table.specs.declared.ObjectNumber.{ObjectNumber}
use Rattle.table.specs.Records.{most_queued, object_base, object_record_at, object_record}
use Rattle.table.specs.Rules.{references, object_right}
use Rattle.table.specs.Check.{wrong_alone, depths, past_depth, wrong_object}
use Rattle.table.proofs.Facts.{object_facts, byte_facts}
use Rattle.table.proofs.Turns.{or_true}

-- the first i objects are right, and depth is the sum of theirs
pub record Passed (t : List ℕ) (c : Counts) (depth i : ℕ) : Type 0 where
  pub within : i ≤ c.objects
  pub sum : depth ≡ depths t c i
  pub low : depth ≤ most_queued
  pub right : (j : ℕ) → j < i → wrong_object t c j ≡ false

pub walk_starts : (t : List ℕ) (c : Counts) → Passed t c 0 0
walk_starts t c = record { within = zero-le; sum = refl; low = zero-le; right = λ j h. absurd (omega arith) }

module _ (t : List ℕ) (c : Counts) {depth i : ℕ} (p : Passed t c depth i) where
  -- none of the objects is wrong
  pub none_named : c.objects ≤ i → least c.objects (wrong_object t c) ≡ c.objects
  none_named end = least_none c.objects (wrong_object t c) (λ j h. p.right j (omega arith))

  pub walk_ends : c.objects ≤ i → i ≡ least c.objects (wrong_object t c)
  walk_ends end = omega (arith, p.within, end, none_named end)

  module _ (h : i < c.objects) {right : Bool}
      (test : right ≡ object_right (object_record_at (object_base c.ipdus + 32 * i) t) (references t c (object_record_at (object_base c.ipdus + 32 * i) t))) where
    -- the object is the one that is named
    abbrev pub Named : Type 0
    Named =
        (least c.objects (wrong_object t c) < c.objects)
        × ◌≡◌ {A = ObjectNumber} (record { 0 = i }) (record { 0 = least c.objects (wrong_object t c) })

    named : wrong_object t c i ≡ true → Named
    named wrong =
        let same : least c.objects (wrong_object t c) ≡ i = least_at c.objects (wrong_object t c) i h p.right wrong in
        rw same (h, refl)

    alone : wrong_alone t c i ≡ not right
    unfolding object_record
    alone = ap not (sym test)

    pub ends_alone : right ≡ false → Named
    ends_alone wrong = named (rw (alone, wrong))

    module _ {d : ℕ} (here : d ≡ (object_record_at (object_base c.ipdus + 32 * i) t).depth) where
      sum : depth + d ≡ depths t c (suc i)
      unfolding object_record
      sum = rw (p.sum, here)

      -- the code's limit is the definition's, or above it; that it is no higher is what `walk_goes_on` asks for
      pub ends_past_depth : {limit : ℕ} → leb most_queued limit ≡ true → limit < depth + d → Named
      ends_past_depth {limit} enough past =
          let over : most_queued < depth + d = omega (arith, leb-true most_queued limit enough, past) in
          named (or_true (wrong_alone t c i) (past_depth t c i) (lt-ltb _ _ (rw sum at over)))

      module _ (left : right ≡ true) where
        pub depth_fits : depth + d < 2 ^ 32
        depth_fits =
            let r = object_record_at (object_base c.ipdus + 32 * i) t in
            omega (arith, (byte_facts r (object_facts r (references t c r) (sym test ∙ left)).bytes).depths, p.low)

        pub walk_goes_on : depth + d ≤ most_queued → Passed t c (depth + d) (i + 1)
        walk_goes_on low =
            record {
              within = omega arith;
              sum = sum ∙ ap (depths t c) (sym (add-one i));
              low = low;
              right = below_more (λ (j : ℕ). wrong_object t c j ≡ false) i p.right (rw (alone, left) (le-ltb _ _ (rw sum at low)));
            }

        -- an object with no queue leaves the sum
        pub walk_stays : d ≡ 0 → Passed t c depth (i + 1)
        walk_stays none = let same : depth + d ≡ depth = omega arith in rw same at (walk_goes_on (omega (arith, p.low)))
