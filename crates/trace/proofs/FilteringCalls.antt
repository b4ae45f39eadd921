-- W-203, one call over an accepted table and any filter: what it leaves of an object's row where it filters a value of it, and of its count
-- where it filters none.
-- Assumes: arguments are of the types that the calls take (`Typed`).
use Rattle.std.proofs.Common.{Bool, true, false, ◌||◌, List, ◌≡◌, refl, sym, ap, ◌∙◌, ℕ, ◌<◌, arith, eqb-true, eq-eqb, ne_eqb, eqb, length}
use Rattle.memory.specs.Bytes.{Bytes, replaced}
use Rattle.memory.specs.Search.{pick}
use Rattle.memory.proofs.Search.{picked}
use Rattle.memory.proofs.Tests.{true_not_false}
use Rattle.filter.specs.Filters.{next_count}
use Rattle.table.specs.declared.Counts.{Counts}
use Rattle.table.specs.Records.{receiving, sending, absent, ipdu_record, object_record}
use Rattle.table.proofs.Accepted.{usable}
use Rattle.table.proofs.Senders.{sender_received}
use Rattle.state.specs.declared.ObjectState.{ObjectState}
use Rattle.state.specs.Layout.{slot_at, object_state}
use Rattle.state.specs.Ranges.{Ready}
use Rattle.message.specs.Objects.{object, passes_filter, after_filter, delivered, unpack}
use Rattle.calls.specs.Answers.{number_of}
use Rattle.calls.specs.Calls.{is_object, is_ipdu, send_in, indication_in}
use Rattle.calls.proofs.Records.{object_there, object_kind, ipdu_there, ipdu_direction}
use Rattle.calls.proofs.CountsKept.{stays_stop, stays_send, stays_initialise, stays_receive, stays_status, stays_marks, stays_clear, stays_periodic, stays_bad, stays_good}
use Rattle.calls.proofs.CountsKept.{stays_confirm, stays_tick}
use Rattle.calls.proofs.FilteredRows.{filtered_count, delivered_count, row_sent, row_inside, row_indicated}
use Rattle.layer.specs.Step.{Call, start, stop, send, initialise, receive, status, marks, clear_marks, start_periodic, stop_periodic, indication, confirm, tick, describe}
use Rattle.trace.specs.Demand3.{Typed, done}
use Rattle.trace.specs.RoundTrip.{reading_in}
use Rattle.trace.specs.Filterings.{no_value, a_value, filtered_value, filtered_row}
use Rattle.trace.proofs.Shows.{shows, send_done}
use Rattle.trace.proofs.Arrivals.{copied_value}

no_value_lem : {v : ℕ} → no_value ≡ a_value v → ⊥
no_value_lem e = let z : ◌≡◌ {A = ℕ} 0 1 = cc in omega arith

-- a value, or none, by a test
picked_one : (b : Bool) (v w : ℕ) → pick b (a_value v) no_value ≡ a_value w → (b ≡ true) × (v ≡ w)
picked_one true v w e = (refl, cc)
picked_one false v w e = absurd (no_value_lem e)

picked_none : (b : Bool) (v : ℕ) → pick b (a_value v) no_value ≡ no_value → b ≡ false
picked_none true v e = absurd (no_value_lem (sym e))
picked_none false v e = refl

neither : (a b : Bool) → (a || b) ≡ false → (a ≡ false) × (b ≡ false)
neither true b e = absurd (true_not_false {b = true} refl e)
neither false b e = (refl, e)

-- a filtering counts, of a send object and of one that the value is delivered to
pub row_count : (t : List ℕ) (c : Counts) (i v : ℕ) (s : ObjectState) → (filtered_row t c i v s).occurrence ≡ next_count (object t c i).filter s.occurrence
row_count t c i v s =
    picked (λ (r : ObjectState). r.occurrence ≡ next_count (object t c i).filter s.occurrence) (eqb (object_record t c.ipdus i).kind sending) _ _
    (λ e. filtered_count (passes_filter (object t c i) v s) (object t c i) v s) (λ e. delivered_count (passes_filter (object t c i) v s) (object t c i) v s)

module _ (t : List ℕ) (c : Counts) (i : ℕ) (low : i < c.objects) (m : List ℕ) (ready : Ready t c m) where
  -- ---- a call that filters no value of the object leaves its count

  pub own_none : (call : Call) → (call ≡ start → ⊥) → Typed call → filtered_value t c i call ≡ no_value
      → (object_state ((describe call).does t c m).memory i).occurrence ≡ (object_state m i).occurrence
  own_none start other y e = absurd (other refl)
  own_none stop other y e = stays_stop t c i low m ready
  own_none (send j v area) other y e =
      let apart = neither (eqb i j) (eqb (object_record t c.ipdus i).sender j) (picked_none _ v e) in
      stays_send t c i low m ready j v y.0 area apart.0 apart.1
  own_none (initialise j v) other y e = stays_initialise t c i low m ready j v
  own_none (receive j) other y e = stays_receive t c i low m ready j
  own_none (status j) other y e = stays_status t c i low m ready j
  own_none (marks j) other y e = stays_marks t c i low m ready j
  own_none (clear_marks j) other y e = stays_clear t c i low m ready j
  own_none start_periodic other y e = stays_periodic t c i low m ready true
  own_none stop_periodic other y e = stays_periodic t c i low m ready false
  own_none (indication k false f) other y e = stays_bad t c i low m ready k f
  own_none (indication k true f) other y e = stays_good t c i low m ready k f y.1 (picked_none _ _ e)
  own_none (confirm k good) other y e = stays_confirm t c i low m ready k good
  own_none (tick area) other y e = stays_tick t c i low m ready area

  -- ---- one that filters a value leaves its row

  -- by its kind
  row_as : (n : List ℕ) (v : ℕ) (b : Bool) → eqb (object_record t c.ipdus i).kind sending ≡ b
      → object_state n i
      ≡ pick b (after_filter (passes_filter (object t c i) v (object_state m i)) (object t c i) v (object_state m i))
      (delivered (passes_filter (object t c i) v (object_state m i)) (object t c i) v (object_state m i))
      → object_state n i ≡ filtered_row t c i v (object_state m i)
  row_as n v b e same =
      same
      ∙ ap
      (λ (d : Bool).
      pick d (after_filter (passes_filter (object t c i) v (object_state m i)) (object t c i) v (object_state m i))
      (delivered (passes_filter (object t c i) v (object_state m i)) (object t c i) v (object_state m i)))
      (sym e)

  received_row : (n : List ℕ) (v : ℕ) → (object_record t c.ipdus i).kind ≡ receiving
      → object_state n i ≡ delivered (passes_filter (object t c i) v (object_state m i)) (object t c i) v (object_state m i)
      → object_state n i ≡ filtered_row t c i v (object_state m i)
  received_row n v two = row_as n v false (ne_eqb (object_record t c.ipdus i).kind sending (λ one. omega (arith, one, two)))

  sent_row : (j v : ℕ) (area : List ℕ) → Typed (send j v area) → is_object t c sending j ≡ true → (eqb i j || eqb (object_record t c.ipdus i).sender j) ≡ true
      → object_state (send_in t c j v area m).memory i ≡ filtered_row t c i v (object_state m i)
  sent_row j v area y is = by (eqb i j) refl
    where
      by : (own : Bool) → eqb i j ≡ own → (own || eqb (object_record t c.ipdus i).sender j) ≡ true
          → object_state (send_in t c j v area m).memory i ≡ filtered_row t c i v (object_state m i)
      by true e z =
          let same : j ≡ i = sym (eqb-true i j e) in
          let sends = rw same at is in
          rw same
          (row_as (send_in t c i v area m).memory v true (eq-eqb (object_record t c.ipdus i).kind sending (object_kind t c sending i sends))
          (row_sent t c m ready i v sends y.0 area))
      by false e z =
          let from = eqb-true (object_record t c.ipdus i).sender j z in
          let two = sender_received t c ready.right i low (omega (arith, from, object_there t c sending j is, ready.right.shape.objects)) in
          received_row (send_in t c j v area m).memory v two (row_inside t c m ready i j v is y.0 area low from)

  -- a good indication that is refused, or not
  data Indicated (k : ℕ) (f : List ℕ) : Type 0 where
    refused : done (indication_in t c k true f m) ≡ false → Indicated k f
    taken : done (indication_in t c k true f m) ≡ true → is_ipdu t c receiving k ≡ true → length f ≡ (ipdu_record t k).length → Indicated k f

  indicates : (k : ℕ) (f : List ℕ) → Indicated k f
  unfolding indication_in
  indicates k f = by (is_ipdu t c receiving k) (eqb (length f) (ipdu_record t k).length) refl refl
    where
      by : (is exact : Bool) → is_ipdu t c receiving k ≡ is → eqb (length f) (ipdu_record t k).length ≡ exact → Indicated k f
      by false exact a b = refused (rw a)
      by true false a b = refused (rw (a, b))
      by true true a b = taken (rw (a, b)) a (eqb-true (length f) (ipdu_record t k).length b)

  indicated_row : (k : ℕ) (f : List ℕ) → Bytes f → is_ipdu t c receiving k ≡ true → length f ≡ (ipdu_record t k).length → (object_record t c.ipdus i).ipdu ≡ k
      → object_state (indication_in t c k true f m).memory i ≡ filtered_row t c i (reading_in (object_record t c.ipdus i) f) (object_state m i)
  indicated_row k f bytes is exact at =
      received_row (indication_in t c k true f m).memory (reading_in (object_record t c.ipdus i) f) two
      (row_indicated t c m ready i k f bytes is exact low at
      ∙ ap (λ (v : ℕ). delivered (passes_filter (object t c i) v (object_state m i)) (object t c i) v (object_state m i)) reading)
    where
      there : (object_record t c.ipdus i).ipdu < c.ipdus
      there = rw at (ipdu_there t c receiving k is)

      reading : unpack (object t c i) (replaced (slot_at k) f m) ≡ reading_in (object_record t c.ipdus i) f
      reading = rw (← at) (copied_value t c m ready i low there f bytes (rw at exact))

      two : (object_record t c.ipdus i).kind ≡ receiving
      two =
          let some : eqb (object_record t c.ipdus i).ipdu absent ≡ false =
          ne_eqb (object_record t c.ipdus i).ipdu absent (omega (arith, there, ready.right.shape.ipdus)) in
          sym ((usable t c ready.right i low).ipdu some).1 ∙ rw at (ipdu_direction t c receiving k is)

  pub own_one : (call : Call) → Typed call → (v : ℕ) → filtered_value t c i call ≡ a_value v → done ((describe call).does t c m) ≡ true
      → object_state ((describe call).does t c m).memory i ≡ filtered_row t c i v (object_state m i)
  own_one start y v e went = absurd (no_value_lem e)
  own_one stop y v e went = absurd (no_value_lem e)
  own_one (send j w area) y v e went =
      let one = picked_one (eqb i j || eqb (object_record t c.ipdus i).sender j) w v e in
      rw (← one.1) (sent_row j w area y (sym (send_done t c j w area m) ∙ went) one.0)
  own_one (initialise j w) y v e went = absurd (no_value_lem e)
  own_one (receive j) y v e went = absurd (no_value_lem e)
  own_one (status j) y v e went = absurd (no_value_lem e)
  own_one (marks j) y v e went = absurd (no_value_lem e)
  own_one (clear_marks j) y v e went = absurd (no_value_lem e)
  own_one start_periodic y v e went = absurd (no_value_lem e)
  own_one stop_periodic y v e went = absurd (no_value_lem e)
  own_one (indication k false f) y v e went = absurd (no_value_lem e)
  own_one (indication k true f) y v e went =
      rw (← one.1) (by (indicates k f))
    where
      one : (eqb (object_record t c.ipdus i).ipdu k ≡ true) × (reading_in (object_record t c.ipdus i) f ≡ v)
      one = picked_one (eqb (object_record t c.ipdus i).ipdu k) (reading_in (object_record t c.ipdus i) f) v e

      by : Indicated k f → object_state (indication_in t c k true f m).memory i ≡ filtered_row t c i (reading_in (object_record t c.ipdus i) f) (object_state m i)
      by (refused off) = absurd (true_not_false went off)
      by (taken on is exact) = indicated_row k f y.1 is exact (eqb-true (object_record t c.ipdus i).ipdu k one.0)
  own_one (confirm k good) y v e went = absurd (no_value_lem e)
  own_one (tick area) y v e went = absurd (no_value_lem e)

  -- ---- a refused one leaves memory

  pub own_refused : (call : Call) (v : ℕ) → filtered_value t c i call ≡ a_value v → done ((describe call).does t c m) ≡ false
      → ((describe call).does t c m).memory ≡ m
  own_refused call v e off =
      (((shows t c call).answered m).leaves
      (λ zero. true_not_false (eq-eqb (number_of ((describe call).does t c m).answer) 0 zero) off, λ three j same. no_value_lem (rw same at e))).memory
