-- Send: each I-PDU that its word names was handed over as it stands in working memory. What it answers and leaves in memory does not
-- depend on what the area held, nor on a value that is dropped where no object receives it inside.
-- Assumes nothing.
use Rattle.std.proofs.Common.{Bool, true, false, ◌&&◌, List, ⊎_elim, ◌≡◌, refl, ap, ◌∙◌, ℕ, ◌^◌, ◌≤◌, ◌<◌, zero-add, arith, eqb-true, pow_pos, eqb, length}
use Rattle.memory.specs.Search.{pick, fold}
use Rattle.memory.proofs.Search.{picked, any_false, fold_view}
use Rattle.memory.proofs.Tests.{true_or_false, true_not_false}
use Rattle.table.specs.declared.Counts.{Counts}
use Rattle.table.specs.Records.{receiving, sending, object_record}
use Rattle.table.specs.Check.{Right}
use Rattle.config.specs.Decode.{object_of}
use Rattle.table.proofs.Accepted.{usable}
use Rattle.table.proofs.Senders.{sender_received}
use Rattle.state.specs.declared.ObjectState.{ObjectState}
use Rattle.state.specs.Layout.{object_state, with_object_state, area_size}
use Rattle.state.specs.Updates.{counted}
use Rattle.state.specs.Ranges.{Ready}
use Rattle.message.specs.Objects.{object, passes_filter, deliver, pack}
use Rattle.delivery.specs.Delivery.{inside_turn, deliver_inside}
use Rattle.message.proofs.ObjectsInRange.{ready_pack}
use Rattle.calls.specs.Answers.{done_with}
use Rattle.calls.specs.Answers.{Outcome, outcome, value_of}
use Rattle.calls.specs.Calls.{is_object, wants, request, send_of, send_in}
use Rattle.calls.proofs.Records.{object_there, wants_some}
use Rattle.calls.proofs.SendParts.{judge, after, after_ready, sent_as}
use Rattle.trace.specs.Book.{Book, keeps}
use Rattle.trace.specs.Demand3.{inside}
use Rattle.trace.proofs.Refines.{Refines}
use Rattle.trace.proofs.BookUnchanged.{unchanged_request}
use Rattle.trace.proofs.SendRefines.{filtered_out, judge_is}
use Rattle.trace.proofs.FramesInArea.{FramesInArea, in_area_none, in_area_same, request_tried, in_area_more}

module _ (t : List ℕ) (c : Counts) where
  -- no request, no frame
  pub in_area_zero : (area m : List ℕ) → FramesInArea t c 0 area m
  in_area_zero area m = record { named = λ k e. absurd (in_area_none k e); slot = λ k e. absurd (in_area_none k e) }

  abbrev pub FramesOf : Outcome → Type 0
  FramesOf o = FramesInArea t c (value_of o.answer) o.area o.memory

  -- ---- the request

  request_in_area : (i : ℕ) → is_object t c sending i ≡ true → (area : List ℕ) → area_size ≤ length area → (m : List ℕ) → Ready t c m
      → FramesOf (request t (object t c i) area m)
  request_in_area i is area fits m ready =
      ⊎_elim wanted (λ (w : wants t (object t c i) ≡ false). unfold request in rw w (in_area_zero area m)) (true_or_false (wants t (object t c i)))
    where
      h : i < c.objects
      h = object_there t c sending i is

      k : ℕ
      k = (object_record t c.ipdus i).ipdu

      o : Outcome
      o = request t (object t c i) area m

      wanted : wants t (object t c i) ≡ true → FramesOf (request t (object t c i) area m)
      wanted w =
          let low : k < c.ipdus = unfold object_of in ((usable t c ready.right i h).ipdu (wants_some t (object t c i) w)).0 in
          let x =
          in_area_more t c ready.right k 0 low area m fits ready.long (pow_pos k) (λ j e. absurd (in_area_none j e)) (in_area_zero area m) o
          (request_tried t c ready.right i is w area m) in
          in_area_same t c (value_of o.answer) o.area m o.memory ready.right (rw (zero-add (value_of o.answer)) at x.hands)
          (unchanged_request t c i is area m ready).slot

  -- ---- send

  pub send_in_area : (i v : ℕ) → v < 2 ^ 32 → (area : List ℕ) → area_size ≤ length area → (m : List ℕ) → Ready t c m → FramesOf (send_in t c i v area m)
  send_in_area i v small area fits m ready =
      ⊎_elim sent (λ (no : is_object t c sending i ≡ false). unfold send_in in rw no (in_area_zero area m)) (true_or_false (is_object t c sending i))
    where
      sent : is_object t c sending i ≡ true → FramesOf (send_in t c i v area m)
      sent is =
          let n = after t c m ready i is v small area in
          let next = after_ready t c m ready i is v small area in
          rw (sent_as t c m ready i is v small area (judge t c m ready i is v small area) refl)
          (picked FramesOf (judge t c m ready i is v small area) _ _
          (λ p. request_in_area i is area fits (pack (object t c i) v n) (ready_pack t c n next i (object_there t c sending i is) v))
          (λ p. in_area_zero area n))

  -- ---- another area

  pick_view {ℓ} : {B : Type ℓ} (view : Outcome → B) (b : Bool) (x y p q : Outcome) → view x ≡ view p → view y ≡ view q → view (pick b x y) ≡ view (pick b p q)
  pick_view view true x y p q e f = e
  pick_view view false x y p q e f = f

  pub send_area : (i v : ℕ) (area other m : List ℕ) → ((send_in t c i v area m).answer ≡ (send_in t c i v other m).answer)
      × ((send_in t c i v area m).memory ≡ (send_in t c i v other m).memory)
  unfolding send_in send_of request
  send_area i v area other m = (
    pick_view (λ (o : Outcome). o.answer) (is_object t c sending i) _ _ _ _
        (pick_view (λ (o : Outcome). o.answer) (passes_filter (object t c i) v (object_state (deliver_inside t c i v m) i)) _ _ _ _
        (pick_view (λ (o : Outcome). o.answer) (wants t (object t c i)) _ _ _ _ refl refl) refl)
        refl,
    pick_view (λ (o : Outcome). o.memory) (is_object t c sending i) _ _ _ _
        (pick_view (λ (o : Outcome). o.memory) (passes_filter (object t c i) v (object_state (deliver_inside t c i v m) i)) _ _ _ _
        (pick_view (λ (o : Outcome). o.memory) (wants t (object t c i)) _ _ _ _ refl refl) refl)
        refl,
  )

  -- ---- a dropped value, with no receiver inside

  none_inside : (i v : ℕ) → i < c.objects → inside t c i ≡ false → (m : List ℕ) → Right t c → deliver_inside t c i v m ≡ m
  unfolding deliver_inside
  none_inside i v h none m right = fold_view (λ (l : List ℕ). l) c.objects (inside_turn t c i v) m still
    where
      not_inside : (j : ℕ) → j < c.objects → eqb (object_record t c.ipdus j).sender i ≡ true → ⊥
      not_inside j b e =
          let from : (object_record t c.ipdus j).sender ≡ i = eqb-true (object_record t c.ipdus j).sender i e in
          let two = sender_received t c right j b (omega (arith, from, h, right.shape.objects)) in
          true_not_false {b = eqb (object_record t c.ipdus j).kind receiving && eqb (object_record t c.ipdus j).sender i} (rw (two, e))
          (any_false c.objects (λ n. eqb (object_record t c.ipdus n).kind receiving && eqb (object_record t c.ipdus n).sender i) none j b)

      still : (j : ℕ) → j < c.objects → inside_turn t c i v j (fold j (inside_turn t c i v) m) ≡ fold j (inside_turn t c i v) m
      still j b =
          picked (λ (l : List ℕ). l ≡ fold j (inside_turn t c i v) m) (eqb (object_record t c.ipdus j).sender i)
          (deliver (object t c j) j v (fold j (inside_turn t c i v) m)) (fold j (inside_turn t c i v) m) (λ e. absurd (not_inside j b e)) (λ e. refl)

  pub send_dropped : (b : Book) (m : List ℕ) → Refines t c b m → (i v : ℕ) → v < 2 ^ 32 → (area : List ℕ) → is_object t c sending i ≡ true
      → keeps t c b i v ≡ false → inside t c i ≡ false → send_in t c i v area m ≡ outcome (done_with 0) (with_object_state m i (counted (object t c i).filter (object_state m i))) area
  send_dropped b m a i v small area is drop none =
      let p : judge t c m a.ready i is v small area ≡ false = judge_is t c b m a i is v small area ∙ drop in
      let same = none_inside i v (object_there t c sending i is) none m a.ready.right in
      sent_as t c m a.ready i is v small area false p
      ∙ ap (λ (s : ObjectState). outcome (done_with 0) (with_object_state (deliver_inside t c i v m) i s) area)
      (filtered_out (judge t c m a.ready i is v small area) (object t c i) v (object_state (deliver_inside t c i v m) i) p)
      ∙ ap (λ (l : List ℕ). outcome (done_with 0) (with_object_state l i (counted (object t c i).filter (object_state l i))) area) same
