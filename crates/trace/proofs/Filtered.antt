-- W-203: the filterings by a call of an object with filter 14 pass in turn, and its count goes on with each.
-- Assumes nothing.
use Rattle.std.proofs.Common.{Bool, true, false, List, [], ◌∷◌, ◌++◌, ◌≡◌, refl, sym, ap, ◌∙◌, ℕ, ◌+◌, ◌-◌, ◌%◌, ◌≤◌, ◌<◌, add-zero, arith, length, length-append}
use Rattle.memory.specs.Search.{pick}
use Rattle.filter.specs.Filters.{greatest_count, next_count, filter_of}
use Rattle.filter.specs.declared.Filter.TheVariants.{OneEveryN}
use Rattle.filter.proofs.Laws.{own_remainder, next_in_turn, passes_in_turn, right_period}
use Rattle.table.specs.Records.{counts, object_record}
use Rattle.table.specs.Rules.{references}
use Rattle.table.specs.Check.{Right}
use Rattle.table.proofs.Facts.{object_facts}
use Rattle.config.specs.Decode.{object_of}
use Rattle.state.specs.declared.ObjectState.{ObjectState}
use Rattle.state.specs.Layout.{object_state}
use Rattle.state.specs.Ranges.{Ready}
use Rattle.message.specs.Objects.{object, passes_filter}
use Rattle.message.proofs.ObjectsInRange.{ready_count}
use Rattle.layer.specs.Admission.{working_memory}
use Rattle.layer.specs.Step.{Call, start, step}
use Rattle.trace.specs.Demand3.{done}
use Rattle.trace.specs.Filterings.{Given, no_value, a_value, filtered_value, filter_result, filtered_by, CallFilters, Fourteen, period_of, offset_of, turns}
use Rattle.trace.proofs.TurnLaws.{turns_join}
use Rattle.trace.proofs.FilteringCalls.{row_count}

module _ (t : List ℕ) (right : Right t (counts t)) (i : ℕ) (x : Fourteen t i) where
  filter_is : (object t (counts t) i).filter ≡ OneEveryN (period_of t i) (offset_of t i)
  unfolding object_of filter_of
  filter_is = rw x.filter

  pub in_period : (0 < period_of t i) × (offset_of t i < period_of t i)
  in_period =
      let r = object_record t (counts t).ipdus i in
      right_period (period_of t i) (offset_of t i) (rw x.filter at (object_facts r (references t (counts t) r) (right.objects i x.low)).filters)

  -- its count
  abbrev count_in : List ℕ → ℕ
  count_in m = (object_state (working_memory m) i).occurrence

  -- in its range it is its own remainder
  pub count_remainder : (m : List ℕ) → Ready t (counts t) (working_memory m) → count_in m ≡ count_in m % period_of t i
  unfolding greatest_count
  count_remainder m ready =
      let most : count_in m ≤ period_of t i - 1 = rw filter_is at (ready_count t (counts t) (working_memory m) ready i x.low).low in
      sym (own_remainder (period_of t i) (count_in m) most)

  -- ---- filterings from number n on: they pass in turn, and the count goes on with each

  pub record InTurnFrom (n : ℕ) (fs : List Bool) (m : List ℕ) : Type 0 where
    pub passes : fs ≡ turns (period_of t i) (offset_of t i) n (length fs)
    pub count : count_in m ≡ (n + length fs) % period_of t i

  pub in_turn_then : (n : ℕ) (fs gs : List Bool) (l m : List ℕ) → InTurnFrom n fs l → InTurnFrom (n + length fs) gs m → InTurnFrom n (fs ++ gs) m
  in_turn_then n fs gs l m a b =
      let both : length (fs ++ gs) ≡ length fs + length gs = length-append fs gs in
      let sum : n + length fs + length gs ≡ n + (length fs + length gs) = omega arith in
      record {
        passes =
            ap (λ (h : List Bool). h ++ gs) a.passes
            ∙ ap (λ (h : List Bool). turns (period_of t i) (offset_of t i) n (length fs) ++ h) b.passes
            ∙ turns_join (period_of t i) (offset_of t i) n (length fs) (length gs)
            ∙ ap (turns (period_of t i) (offset_of t i) n) (sym both);
        count = b.count ∙ ap (λ (k : ℕ). k % period_of t i) (sum ∙ ap (λ (k : ℕ). n + k) (sym both));
      }

  module _ (n : ℕ) (m : List ℕ) (here : count_in m ≡ n % period_of t i) where
    pub none_filtered : (l : List ℕ) → count_in l ≡ count_in m → InTurnFrom n [] l
    none_filtered l same = record { passes = refl; count = same ∙ here ∙ ap (λ (k : ℕ). k % period_of t i) (sym (add-zero n)) }

    one_filtered : (v : ℕ) (l : List ℕ) → count_in l ≡ next_count (object t (counts t) i).filter (count_in m)
        → InTurnFrom n (passes_filter (object t (counts t) i) v (object_state (working_memory m) i) ∷ []) l
    one_filtered v l next =
        record {
          passes = rw (filter_is, here, passes_in_turn (object t (counts t) i).signed (period_of t i) (offset_of t i) v (object_state (working_memory m) i).old n in_period.0);
          count = next ∙ rw (filter_is, here) (next_in_turn (period_of t i) (offset_of t i) n in_period.0);
        }

    -- a call, done or refused
    pub call_in_turn : (call : Call) → (call ≡ start → ⊥) → CallFilters t i call m → InTurnFrom n (filtered_by t i call m) (step t call m).memory
    call_in_turn call other f = by (filtered_value t (counts t) i call) refl (done (step t call m)) refl
      where
        by : (given : Given) → filtered_value t (counts t) i call ≡ given → (went : Bool) → done (step t call m) ≡ went
            → InTurnFrom n (pick went (filter_result t (counts t) i (working_memory m) given) []) (step t call m).memory
        by no_value e true d = none_filtered (step t call m).memory (f.none other (rw (e, d)))
        by no_value e false d = none_filtered (step t call m).memory (f.none other (rw (e, d)))
        by (a_value v) e true d =
            one_filtered v (step t call m).memory (ap (λ (s : ObjectState). s.occurrence) (f.one v d e) ∙ row_count t (counts t) i v (object_state (working_memory m) i))
        by (a_value v) e false d = none_filtered (step t call m).memory (f.none other (rw (e, d)))
