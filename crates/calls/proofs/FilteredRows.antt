-- A call that filters a value of an object: what it leaves of the object's row.
-- Assumes nothing.
use Rattle.std.proofs.Common.{Bool, true, false, List, ◌≡◌, refl, ◌∙◌, ℕ, ◌+◌, ◌^◌, ◌<◌, arith, eq-eqb, ne_eqb, ltb, eqb, length}
use Rattle.memory.specs.Bytes.{Bytes, replaced}
use Rattle.memory.proofs.Search.{picked}
use Rattle.filter.specs.Filters.{next_count}
use Rattle.table.specs.declared.Counts.{Counts}
use Rattle.config.specs.declared.Object.{Object}
use Rattle.table.specs.Records.{most_ipdus, receiving, sending, ipdu_record, object_record}
use Rattle.table.proofs.Senders.{send_no_sender}
use Rattle.state.specs.declared.ObjectState.{ObjectState}
use Rattle.state.specs.Layout.{slot_at, object_row, object_state}
use Rattle.state.specs.Ranges.{Ready}
use Rattle.state.proofs.RowLaws.{ipdu_keeps_objects, slot_keeps_objects, object_stored, object_other, object_read}
use Rattle.state.proofs.Ready.{kept_fits, object_row_lem, ipdu_row_lem}
use Rattle.message.specs.Objects.{object, marked, passes_filter, after_filter, delivered, pack, unpack}
use Rattle.delivery.specs.Delivery.{deliver_frame}
use Rattle.message.proofs.ObjectsInRange.{ready_pack, ready_placed}
use Rattle.delivery.proofs.DeliveredRows.{inside_row, inside_apart, frame_row}
use Rattle.calls.specs.Answers.{Outcome}
use Rattle.calls.specs.Calls.{is_object, is_ipdu, request, send_in, timed, indication_in}
use Rattle.calls.proofs.Records.{object_there, object_kind, ipdu_there, ipdu_short}
use Rattle.calls.proofs.SlotRows.{pack_row, request_behind}
use Rattle.calls.proofs.SendParts.{here, inner, judge, after, inner_ready, after_kept, after_ready, sent_as}
use Rattle.calls.proofs.ReadyKept.{ready_copied, ready_delivered}

-- ---- a filtering counts, whatever becomes of the value

pub filtered_count : (passed : Bool) (o : Object) (v : ℕ) (s : ObjectState) → (after_filter passed o v s).occurrence ≡ next_count o.filter s.occurrence
unfolding after_filter
filtered_count true o v s = refl
filtered_count false o v s = refl

pub delivered_count : (passed : Bool) (o : Object) (v : ℕ) (s : ObjectState) → (delivered passed o v s).occurrence ≡ next_count o.filter s.occurrence
unfolding delivered marked
delivered_count false o v s = filtered_count false o v s
delivered_count true o v s =
    let next = after_filter true o v s in
    let Counts : ObjectState → Type 0 = λ r. r.occurrence ≡ next_count o.filter s.occurrence in
    let same = filtered_count true o v s in
    picked Counts (eqb o.depth 0) _ _ (λ e. same) (λ e. picked Counts (ltb next.count o.depth) _ _ (λ f. same) (λ f. same))

module _ (t : List ℕ) (c : Counts) (m : List ℕ) (ready : Ready t c m) where
  -- ---- send

  -- no object has itself as its sending object
  other_sender : (i j : ℕ) → is_object t c sending j ≡ true → i ≡ j → (object_record t c.ipdus i).sender ≡ j → ⊥
  other_sender i j is e from =
      let low = object_there t c sending j is in
      let none = send_no_sender t c ready.right j low (object_kind t c sending j is) in
      omega (arith, rw e at from, none, low, ready.right.shape.objects)

  -- after the filter no row changes
  pub sent_row : (i : ℕ) (is : is_object t c sending i ≡ true) (v : ℕ) (small : v < 2 ^ 32) (area : List ℕ) (j : ℕ)
      → object_state (send_in t c i v area m).memory j ≡ object_state (after t c m ready i is v small area) j
  sent_row i is v small area j =
      let o = object t c i in
      let h = here t c m ready i is v small area in
      let n = after t c m ready i is v small area in
      let next = after_ready t c m ready i is v small area in
      rw (sent_as t c m ready i is v small area (judge t c m ready i is v small area) refl)
      (picked (λ (x : Outcome). object_state x.memory j ≡ object_state n j) (judge t c m ready i is v small area) _ _
      (λ p.
      object_read (request t o area (pack o v n)).memory (pack o v n) j
      (λ q w b. request_behind t o area (pack o v n) (ready_placed t c (pack o v n) (ready_pack t c n next i h v) i h) (object_row j + q) w (omega arith))
      ∙ pack_row o v n (ready_placed t c n next i h) j)
      (λ p. refl))

  -- the object sent
  pub row_sent : (i v : ℕ) → is_object t c sending i ≡ true → v < 2 ^ 32 → (area : List ℕ)
      → object_state (send_in t c i v area m).memory i ≡ after_filter (passes_filter (object t c i) v (object_state m i)) (object t c i) v (object_state m i)
  row_sent i v is small area =
      let h = here t c m ready i is v small area in
      let l = inner t c m ready i is v small area in
      let first = inner_ready t c m ready i is v small area in
      rw (← inside_apart t c m ready i v i small h (ne_eqb (object_record t c.ipdus i).sender i (other_sender i i is refl)))
      (sent_row i is v small area i
      ∙ object_stored l i _ (object_row_lem t c l first i h) (kept_fits t c l first i h _ (after_kept t c m ready i is v small area)))

  -- a receiver inside
  pub row_inside : (i j v : ℕ) → is_object t c sending j ≡ true → v < 2 ^ 32 → (area : List ℕ) → i < c.objects
      → (object_record t c.ipdus i).sender ≡ j
      → object_state (send_in t c j v area m).memory i
      ≡ delivered (passes_filter (object t c i) v (object_state m i)) (object t c i) v (object_state m i)
  row_inside i j v is small area low from =
      let l = inner t c m ready j is v small area in
      let room = object_row_lem t c l (inner_ready t c m ready j is v small area) j (here t c m ready j is v small area) in
      sent_row j is v small area i
      ∙ object_other l j _ room i (λ e. other_sender i j is e from)
      ∙ inside_row t c m ready j v i small low from

  -- ---- a good indication

  pub row_indicated : (i k : ℕ) (f : List ℕ) → Bytes f → is_ipdu t c receiving k ≡ true → length f ≡ (ipdu_record t k).length → i < c.objects
      → (object_record t c.ipdus i).ipdu ≡ k
      → object_state (indication_in t c k true f m).memory i
      ≡ delivered (passes_filter (object t c i) (unpack (object t c i) (replaced (slot_at k) f m)) (object_state m i)) (object t c i)
      (unpack (object t c i) (replaced (slot_at k) f m)) (object_state m i)
  row_indicated i k f bytes is exact low from =
      let n = deliver_frame t c k (replaced (slot_at k) f m) in
      rw (indicated, ← copied)
      (ipdu_keeps_objects n k _ (ipdu_row_lem t c n (ready_delivered t c m ready k there f bytes exact) k there) few i
      ∙ frame_row t c (replaced (slot_at k) f m) (ready_copied t c m ready k there f bytes exact) k i few low from)
    where
      there : k < c.ipdus
      there = ipdu_there t c receiving k is

      few : k < most_ipdus
      few = omega (arith, there, ready.right.shape.ipdus)

      indicated : (indication_in t c k true f m).memory ≡ timed t k (deliver_frame t c k (replaced (slot_at k) f m))
      indicated = unfold indication_in in rw (is, eq-eqb (length f) (ipdu_record t k).length exact)

      copied : object_state (replaced (slot_at k) f m) i ≡ object_state m i
      copied =
          let short = ipdu_short t c ready.right k there in
          slot_keeps_objects m k f (omega (arith, exact, short)) few (omega (arith, exact, short, few, ready.long)) i
