-- W-203: what `Filterings` reads off a call is what the layer does, of every object and filter: a value that is filtered leaves the row that
-- the definition says, a call that filters none leaves the count, and of a send object the book judges alike.
-- Assumes: the table holds bytes, and arguments are of the types that the calls take (`Typed`).
use Rattle.std.proofs.Common.{Bool, true, false, List, [], ◌≡◌, refl, ap, ap₂, ℕ, ◌<◌, arith, ne_eqb, length, Ok, Err}
use Rattle.memory.specs.Bytes.{Bytes}
use Rattle.memory.specs.Search.{pick}
use Rattle.memory.proofs.Tests.{true_not_false}
use Rattle.filter.specs.Filters.{passes}
use Rattle.table.specs.Records.{sending, counts}
use Rattle.table.specs.Check.{check}
use Rattle.config.specs.Decode.{object_of}
use Rattle.state.specs.Layout.{object_state}
use Rattle.message.specs.Objects.{object}
use Rattle.calls.specs.Answers.{Outcome, number_of}
use Rattle.calls.proofs.Records.{object_there, object_kind}
use Rattle.layer.specs.Admission.{working_memory, if_admitted}
use Rattle.layer.specs.Step.{Call, start, lent_bytes, describe, step}
use Rattle.layer.proofs.Admitted.{front_of}
use Rattle.trace.specs.Book.{Book, opened}
use Rattle.trace.specs.Actions.{memory_after_all, book_after_all}
use Rattle.trace.specs.Demand3.{Typed, done}
use Rattle.trace.specs.Filterings.{Given, no_value, a_value, filtered_value, filter_result, filtered_row, CallFilters, AllFilter, FiltersKeep}
use Rattle.trace.proofs.Steps.{Follows, start_accepted, start_follows, admission_by, Admits, goes, stays, admits, admission_is, own_long}
use Rattle.trace.proofs.ActionsKept.{actions_follow}
use Rattle.trace.proofs.FilteringCalls.{own_none, own_one, own_refused}

module _ (t : List ℕ) (accepted : check t ≡ Ok (counts t)) (bt : Bytes t) (b : Book) (m : List ℕ) (f : Follows t (counts t) b m) (call : Call)
    (y : Typed call) (i : ℕ) (low : i < (counts t).objects) where
  -- admitted or refused
  abbrev did : Outcome
  did = if_admitted (admission_by (describe call) (counts t) b) m (lent_bytes (describe call).lent) ((describe call).does t)

  abbrev own : Outcome
  own = (describe call).does t (counts t) (working_memory m)

  one : (v : ℕ) → filtered_value t (counts t) i call ≡ a_value v → Admits (describe call) (counts t) b → done did ≡ true
      → object_state (working_memory did.memory) i ≡ filtered_row t (counts t) i v (object_state (working_memory m) i)
  one v e (goes g l on) =
      rw (g, front_of own.memory m (own_long t (counts t) accepted bt b m f call y l))
      (λ went. own_one t (counts t) i low (working_memory m) f.agrees.ready call y v e went)
  one v e (stays a g refused six off) = rw g (λ went. absurd (true_not_false went (ne_eqb (number_of (Err a)) 0 refused)))

  none : (call ≡ start → ⊥) → Admits (describe call) (counts t) b
      → pick (done did) (filter_result t (counts t) i (working_memory m) (filtered_value t (counts t) i call)) [] ≡ []
      → (object_state (working_memory did.memory) i).occurrence ≡ (object_state (working_memory m) i).occurrence
  none other (goes g l on) =
      rw (g, front_of own.memory m (own_long t (counts t) accepted bt b m f call y l)) (by (filtered_value t (counts t) i call) refl (done own) refl)
    where
      by : (given : Given) → filtered_value t (counts t) i call ≡ given → (went : Bool) → done own ≡ went
          → pick went (filter_result t (counts t) i (working_memory m) given) [] ≡ []
          → (object_state own.memory i).occurrence ≡ (object_state (working_memory m) i).occurrence
      by no_value e went d z = own_none t (counts t) i low (working_memory m) f.agrees.ready call other y e
      by (a_value v) e true d z = let n : ◌≡◌ {A = ℕ} 1 0 = ap length z in absurd (omega (arith, n))
      by (a_value v) e false d z =
          ap (λ (w : List ℕ). (object_state w i).occurrence) (own_refused t (counts t) i low (working_memory m) f.agrees.ready call v e d)
  none other (stays a g refused six off) = rw g (λ z. refl)

  step_is : step t call m ≡ did
  unfolding step
  step_is = rw (admission_is t (counts t) accepted bt b m f (describe call))

  pub step_filters : CallFilters t i call m
  step_filters =
      record {
        one = λ v went e. rw step_is (one v e (admits (describe call) (counts t) b) (rw step_is at went));
        none = λ other z. rw step_is (none other (admits (describe call) (counts t) b) (rw step_is at z));
      }

pub all_filter : (t : List ℕ) → Bytes t → AllFilter t
all_filter t bt xs typed m went call y i low =
    let a = start_accepted t m went in
    let c = counts t in
    step_filters t a.table bt (book_after_all t c (opened t c) xs) (memory_after_all t xs (step t start m).memory)
    (actions_follow t c a.table bt xs typed (opened t c) (step t start m).memory (start_follows t c a.table bt m a.long)) call y i low

-- of a send object the book judges alike
pub filters_keep : (t : List ℕ) → Bytes t → FiltersKeep t
unfolding object_of
filters_keep t bt xs typed m went i v is =
    let a = start_accepted t m went in
    let c = counts t in
    let f = actions_follow t c a.table bt xs typed (opened t c) (step t start m).memory (start_follows t c a.table bt m a.long) in
    let low = object_there t c sending i is in
    let one = object_kind t c sending i is in
    ap₂ (λ (old n : ℕ). passes (object t c i).signed (object t c i).filter v old n) (f.agrees.old i low one) (f.agrees.count i low one)
