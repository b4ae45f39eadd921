-- W-203 over lists of calls and groups: the filterings of an object with filter 14 pass in turn, so that of any N in a row, N the period,
-- exactly one passes.
-- Assumes: the table holds bytes, and arguments are of the types that the calls take (`TypedAction`).
use Rattle.std.proofs.Common.{Bool, true, false, List, [], ◌∷◌, ◌++◌, ◌≡◌, refl, sym, ap, ◌∙◌, ℕ, ◌+◌, ◌%◌, mod-eq_of_lt, length, Ok}
use Rattle.memory.specs.Bytes.{Bytes}
use Rattle.memory.specs.Search.{pick}
use Rattle.memory.proofs.Tests.{true_not_false}
use Rattle.table.specs.Records.{counts}
use Rattle.table.specs.Check.{Right, check}
use Rattle.table.proofs.Accepted.{accepted_right}
use Rattle.state.specs.Layout.{object_state}
use Rattle.layer.specs.Admission.{working_memory}
use Rattle.layer.specs.Step.{Call, start, send, describe, step, memory_after}
use Rattle.group.specs.declared.Pair.{Pair}
use Rattle.group.specs.Groups.{Group, group_step}
use Rattle.trace.specs.Book.{Book, opened, advance}
use Rattle.trace.specs.Actions.{Action, single, group, leaves, sends_of, group_sends, accepts_group, advance_by, memory_after_all, book_after_all}
use Rattle.trace.specs.Demand3.{Typed, AllTyped, TypedAction, ActionsTyped}
use Rattle.trace.specs.Filterings.{filtered_by, filtered_in, action_filters, filterings, passed, NoStart, Fourteen, period_of, offset_of, OneInN, turns, InTurn}
use Rattle.trace.proofs.StartRefines.{started_count}
use Rattle.trace.proofs.Steps.{Follows, start_accepted, start_follows, start_memory, step_follows}
use Rattle.trace.proofs.ActionsKept.{group_memory, group_kept, action_follows, actions_follow}
use Rattle.trace.proofs.TurnLaws.{turns_part, one_turn}
use Rattle.trace.proofs.Filtered.{in_period, count_remainder, InTurnFrom, in_turn_then, none_filtered, call_in_turn}
use Rattle.trace.proofs.StepFilters.{step_filters}

module _ (t : List ℕ) (accepted : check t ≡ Ok (counts t)) (bt : Bytes t) (i : ℕ) (x : Fourteen t i) where
  right : Right t (counts t)
  right = accepted_right t (counts t) accepted

  abbrev From : ℕ → List Bool → List ℕ → Type 0
  From = InTurnFrom t right i x

  abbrev Counted : ℕ → List ℕ → Type 0
  Counted n m = (object_state (working_memory m) i).occurrence ≡ n % period_of t i

  none : (n : ℕ) (m : List ℕ) → Counted n m → From n [] m
  none n m here = none_filtered t right i x n m here m refl

  step_in_turn : (b : Book) (m : List ℕ) → Follows t (counts t) b m → (n : ℕ) → Counted n m → (call : Call) → (call ≡ start → ⊥) → Typed call
      → From n (filtered_by t i call m) (step t call m).memory
  step_in_turn b m f n here call other y = call_in_turn t right i x n m here call other (step_filters t accepted bt b m f call y i x.low)

  -- the sends of a group
  sends_in_turn : (ps : List Pair) (area : List ℕ) → AllTyped (sends_of ps area) → (b : Book) (m : List ℕ) → Follows t (counts t) b m → (n : ℕ) → Counted n m
      → From n (filtered_in t i (sends_of ps area) m) (memory_after t (sends_of ps area) m)
  sends_in_turn [] area y b m f n here = none n m here
  sends_in_turn (p ∷ ps) area y b m f n here =
      let call = send p.object p.value area in
      let one = step_in_turn b m f n here call (λ e. true_not_false {b = true} refl (ap (λ (c : Call). (describe c).running) e)) y.0 in
      in_turn_then t right i x n (filtered_by t i call m) (filtered_in t i (sends_of ps area) (step t call m).memory)
      (step t call m).memory (memory_after t (sends_of ps area) (step t call m).memory) one
      (sends_in_turn ps area y.1 (advance t (counts t) b call) (step t call m).memory (step_follows t (counts t) accepted bt b m f call y.0)
      (n + length (filtered_by t i call m)) one.count)

  module _ (b : Book) (m : List ℕ) (f : Follows t (counts t) b m) (n : ℕ) (here : Counted n m) where
    -- a group filters as its sends do, a refused one nothing
    group_in_turn : (g : Group) → AllTyped (group_sends g) → From n (action_filters t i (group g) m) (group_step t g m).memory
    group_in_turn g y = rw ((group_kept t (counts t) accepted bt b m f g y).judged, group_memory t (counts t) accepted bt b m f g y) (by (accepts_group b g))
      where
        by : (went : Bool) → From n (pick went (filtered_in t i (group_sends g) m) []) (memory_after t (pick went (group_sends g) []) m)
        by true = sends_in_turn g.pairs.list g.area y b m f n here
        by false = none n m here

    action_in_turn : (a : Action) → (a ≡ single start → ⊥) → TypedAction a → From n (action_filters t i a m) (leaves t a m)
    action_in_turn (single call) other y = step_in_turn b m f n here call (λ e. other (ap single e)) y
    action_in_turn (group g) other y = group_in_turn g y

  actions_in_turn : (xs : List Action) → ActionsTyped xs → NoStart xs → (b : Book) (m : List ℕ) → Follows t (counts t) b m → (n : ℕ) → Counted n m
      → From n (filterings t i xs m) (memory_after_all t xs m)
  actions_in_turn [] y others b m f n here = none n m here
  actions_in_turn (a ∷ xs) y others b m f n here =
      let one = action_in_turn b m f n here a others.0 y.0 in
      in_turn_then t right i x n (action_filters t i a m) (filterings t i xs (leaves t a m)) (leaves t a m) (memory_after_all t xs (leaves t a m)) one
      (actions_in_turn xs y.1 others.1 (advance_by t (counts t) b a) (leaves t a m) (action_follows t (counts t) accepted bt b m f a y.0)
      (n + length (action_filters t i a m)) one.count)

  -- as many in turn as the period have exactly one that passed
  one_passed : (n k : ℕ) (before row after : List Bool) → turns (period_of t i) (offset_of t i) n k ≡ before ++ (row ++ after) → length row ≡ period_of t i
      → passed row ≡ 1
  one_passed n k before row after e long =
      ap passed (turns_part (period_of t i) (offset_of t i) n k before row after e ∙ ap (turns (period_of t i) (offset_of t i) (n + length before)) long)
      ∙ one_turn (period_of t i) (offset_of t i) (n + length before) (in_period t right i x).1

-- of any N filterings in a row exactly one passes
pub one_in_n : (t : List ℕ) → Bytes t → OneInN t
one_in_n t bt xs ys typed_xs typed_ys others m went i x before row after e long =
    let a = start_accepted t m went in
    let c = counts t in
    let l = memory_after_all t (single start ∷ xs) m in
    let f = actions_follow t c a.table bt xs typed_xs (opened t c) (step t start m).memory (start_follows t c a.table bt m a.long) in
    let n = (object_state (working_memory l) i).occurrence in
    let here = count_remainder t (accepted_right t c a.table) i x l f.agrees.ready in
    let fs = actions_in_turn t a.table bt i x ys typed_ys others (book_after_all t c (opened t c) xs) l f n here in
    one_passed t a.table bt i x n (length (filterings t i ys l)) before row after (sym fs.passes ∙ e) long

-- and from a start on they pass in turn
pub in_turn : (t : List ℕ) → Bytes t → InTurn t
in_turn t bt xs typed others m went i x =
    let a = start_accepted t m went in
    let c = counts t in
    let r = accepted_right t c a.table in
    let none : 0 % period_of t i ≡ 0 = mod-eq_of_lt (in_period t r i x).0 in
    let here =
    ap (λ (w : List ℕ). (object_state w i).occurrence) (start_memory t c a.table bt m a.long) ∙ started_count t c r bt i x.low ∙ sym none in
    (actions_in_turn t a.table bt i x xs typed others (opened t c) (step t start m).memory (start_follows t c a.table bt m a.long) 0 here).passes
