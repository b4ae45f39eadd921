-- The values that wait in the queues of a table's objects: a delivery changes those of its own object alone, and so internal delivery
-- and a received I-PDU leave of each queue what the one delivery to its object leaves. Assumes nothing.
use Rattle.std.proofs.Common.{Bool, true, false, List, inl, inr, ⊎_elim, ◌≡◌, refl, sym, ap, ◌∙◌, ℕ, suc, ◌+◌, ◌*◌, ◌^◌, ◌≤◌, ◌<◌, arith, eqb-true, eq-eqb, ne_eqb, eqb}
use Rattle.memory.specs.Search.{fold}
use Rattle.memory.proofs.Search.{picked, sum_more, fold_view, fold_at}
use Rattle.memory.proofs.Tests.{lt_or_le, true_or_false}
use Rattle.bits.specs.Bits.{unpacked, extended}
use Rattle.table.specs.declared.Counts.{Counts}
use Rattle.config.specs.declared.Object.{Object}
use Rattle.table.specs.Records.{most_ipdus, object_record}
use Rattle.table.specs.Check.{depths}
use Rattle.config.specs.Decode.{object_of}
use Rattle.state.specs.Layout.{queues, object_state}
use Rattle.state.specs.Ranges.{Ready}
use Rattle.state.proofs.Ready.{ready_kept}
use Rattle.message.specs.Objects.{object, deliver, start_bit, unpack}
use Rattle.queue.specs.Queues.{Held, waiting}
use Rattle.delivery.specs.Delivery.{inside_turn, deliver_inside, frame_turn, deliver_frame}
use Rattle.queue.proofs.RingPlaces.{around_lt}
use Rattle.message.proofs.ObjectsInRange.{ready_held, ready_deliver, unpack_lt}
use Rattle.message.proofs.Apart.{deliver_other, deliver_slot}
use Rattle.delivery.proofs.DeliveredRows.{deliver_turn, turns_ready}
use Rattle.message.proofs.Queues.{waiting_delivered, deliver_apart, waiting_same}

-- ---- a delivery to another object

-- the queue of a lower object ends where that of a higher one begins, or before
queues_apart : (t : List ℕ) (c : Counts) (i j : ℕ) → i < j → depths t c i + (object t c i).depth ≤ depths t c j
unfolding object_of
queues_apart t c i j h = sum_more j (suc i) (λ k. (object_record t c.ipdus k).depth) h

-- a delivery to object j leaves what waits for object i
pub waiting_other : (t : List ℕ) (c : Counts) (m : List ℕ) → Ready t c m → (i j v : ℕ) → i < c.objects → j < c.objects → (i ≡ j → ⊥)
    → waiting (object t c i).depth i (deliver (object t c j) j v m) ≡ waiting (object t c i).depth i m
unfolding object_of
waiting_other t c m ready i j v low h ne =
    let d = (object t c i).depth in
    let s = object_state m j in
    let own = (ready_kept t c m ready i low).queue in
    let its = (ready_kept t c m ready j h).queue in
    let held = ready_held t c m ready j h in
    waiting_same d i m (deliver (object t c j) j v m) (ready_held t c m ready i low)
    (deliver_other t c m ready j h v i (omega (arith, low, ready.right.shape.objects)) ne)
    (deliver_apart (object t c j) j v m held (queues + 4 * (object_state m i).queue) (4 * d) (omega arith)
    (λ room.
    ⊎_elim
    (λ (b : i < j). inl (omega (arith, own, its, queues_apart t c i j b)))
    (λ (b : j ≤ i).
    let before = queues_apart t c j i (omega (arith, b, ne)) in
    let last = around_lt (object t c j).depth (s.head + s.count) (omega (arith, held.head, room)) in
    inr (omega (arith, own, its, before, last)))
    (lt_or_le i j)))

-- ---- deliveries by rising number

-- where the row and the values that wait are the same, they are the same after a delivery
delivered_same : (o : Object) (i v : ℕ) (m n : List ℕ) → Held o.depth i m → Held o.depth i n → object_state n i ≡ object_state m i
    → waiting o.depth i n ≡ waiting o.depth i m → waiting o.depth i (deliver o i v n) ≡ waiting o.depth i (deliver o i v m)
delivered_same o i v m n before after row same = waiting_delivered o i v n after ∙ rw (row, same) (sym (waiting_delivered o i v m before))

-- to each object that has the test, of a value that no delivery changes for object j, if that has the test
module _ (t : List ℕ) (c : Counts) (m : List ℕ) (ready : Ready t c m) (test : ℕ → Bool) (value : ℕ → List ℕ → ℕ)
    (small : (i : ℕ) → i < c.objects → (n : List ℕ) → Ready t c n → value i n < 2 ^ 32) (j : ℕ) (low : j < c.objects)
    (keeps : test j ≡ true → (i : ℕ) → i < c.objects → (l : List ℕ) → Ready t c l → value j (deliver (object t c i) i (value i l) l) ≡ value j l) where
  -- what no delivery to another object changes, no turn of another object changes
  turn_leaves {κ} : {B : Type κ} (view : List ℕ → B)
      → ((i : ℕ) → i < c.objects → (j ≡ i → ⊥) → (l : List ℕ) → Ready t c l → view (deliver (object t c i) i (value i l) l) ≡ view l)
      → (i : ℕ) → i < c.objects → (j ≡ i → ⊥)
      → view (deliver_turn t c test value i (fold i (deliver_turn t c test value) m)) ≡ view (fold i (deliver_turn t c test value) m)
  turn_leaves view leaves i b ne =
      let l = fold i (deliver_turn t c test value) m in
      picked (λ (x : List ℕ). view x ≡ view l) (test i) (deliver (object t c i) i (value i l) l) l
      (λ y. leaves i b ne l (turns_ready t c m ready test value small i (omega (arith, b)))) (λ y. refl)

  -- a delivery to another object before turn j changes nothing of what waits for object j after it
  turn_after : (i : ℕ) → i < c.objects → (j ≡ i → ⊥) → (l : List ℕ) → Ready t c l
      → waiting (object t c j).depth j (deliver_turn t c test value j (deliver (object t c i) i (value i l) l))
      ≡ waiting (object t c j).depth j (deliver_turn t c test value j l)
  turn_after i b ne l r =
      let n = deliver (object t c i) i (value i l) l in
      let next = ready_deliver t c l r i b (value i l) (small i b l r) in
      let row = deliver_other t c l r i b (value i l) j (omega (arith, low, ready.right.shape.objects)) ne in
      let same = waiting_other t c l r j i (value i l) low b ne in
      ⊎_elim
      (λ (e : test j ≡ true).
      rw (e, keeps e i b l r)
      (delivered_same (object t c j) j (value j l) l n (ready_held t c l r j low) (ready_held t c n next j low) row same))
      (λ (e : test j ≡ false). rw e same)
      (true_or_false (test j))

  -- after all turns as after turn j alone
  waiting_turns : waiting (object t c j).depth j (fold c.objects (deliver_turn t c test value) m)
      ≡ waiting (object t c j).depth j (deliver_turn t c test value j m)
  waiting_turns =
      fold_at (waiting (object t c j).depth j) c.objects (deliver_turn t c test value) m j low
      (λ i b ne.
      turn_leaves (waiting (object t c j).depth j) (λ k h other l r. waiting_other t c l r j k (value k l) low h other) i b (λ e. ne (sym e)))
      ∙ fold_view (λ (l : List ℕ). waiting (object t c j).depth j (deliver_turn t c test value j l)) j (deliver_turn t c test value) m
      (λ i b.
      turn_leaves (λ (l : List ℕ). waiting (object t c j).depth j (deliver_turn t c test value j l)) turn_after i
      (omega (arith, b, low)) (λ e. absurd (omega (arith, b, e))))

-- ---- internal delivery, and a received I-PDU

module _ (t : List ℕ) (c : Counts) (m : List ℕ) (ready : Ready t c m) where
  -- internal delivery, for any object
  inside_turn_lem : (sender v j : ℕ) → v < 2 ^ 32 → j < c.objects
      → waiting (object t c j).depth j (deliver_inside t c sender v m) ≡ waiting (object t c j).depth j (inside_turn t c sender v j m)
  unfolding deliver_inside
  inside_turn_lem sender v j small low =
      waiting_turns t c m ready (λ i. eqb (object_record t c.ipdus i).sender sender) (λ i l. v) (λ i b l r. small) j low (λ e i b l r. refl)

  -- a receiver has what the one delivery to it leaves
  pub inside_waiting : (sender v j : ℕ) → v < 2 ^ 32 → j < c.objects → (object_record t c.ipdus j).sender ≡ sender
      → waiting (object t c j).depth j (deliver_inside t c sender v m) ≡ waiting (object t c j).depth j (deliver (object t c j) j v m)
  inside_waiting sender v j small low e = inside_turn_lem sender v j small low ∙ rw (eq-eqb (object_record t c.ipdus j).sender sender e)

  -- any other object has what it had
  pub inside_waiting_other : (sender v j : ℕ) → v < 2 ^ 32 → j < c.objects → ((object_record t c.ipdus j).sender ≡ sender → ⊥)
      → waiting (object t c j).depth j (deliver_inside t c sender v m) ≡ waiting (object t c j).depth j m
  inside_waiting_other sender v j small low ne = inside_turn_lem sender v j small low ∙ rw (ne_eqb (object_record t c.ipdus j).sender sender ne)

  -- a received I-PDU, for any object
  frame_turn_lem : (k j : ℕ) → k < most_ipdus → j < c.objects
      → waiting (object t c j).depth j (deliver_frame t c k m) ≡ waiting (object t c j).depth j (frame_turn t c k j m)
  unfolding deliver_frame unpack object_of
  frame_turn_lem k j few low =
      waiting_turns t c m ready (λ i. eqb (object_record t c.ipdus i).ipdu k) (λ i l. unpack (object t c i) l) (λ i b l r. unpack_lt t c l r i b) j low
      (λ e i b l r.
      let own = eqb-true (object_record t c.ipdus j).ipdu k e in
      ap (λ (f : List ℕ). extended (object t c j).signed (object t c j).size.0 (unpacked (object t c j).order (start_bit (object t c j)) (object t c j).size.0 f))
      (deliver_slot t c l r i b (unpack (object t c i) l) (object_record t c.ipdus j).ipdu (omega (arith, own, few))))

  -- an object of the I-PDU has what the one delivery of its bits leaves
  pub frame_waiting : (k j : ℕ) → k < most_ipdus → j < c.objects → (object_record t c.ipdus j).ipdu ≡ k
      → waiting (object t c j).depth j (deliver_frame t c k m)
      ≡ waiting (object t c j).depth j (deliver (object t c j) j (unpack (object t c j) m) m)
  frame_waiting k j few low e = frame_turn_lem k j few low ∙ rw (eq-eqb (object_record t c.ipdus j).ipdu k e)

  -- any other object has what it had
  pub frame_waiting_other : (k j : ℕ) → k < most_ipdus → j < c.objects → ((object_record t c.ipdus j).ipdu ≡ k → ⊥)
      → waiting (object t c j).depth j (deliver_frame t c k m) ≡ waiting (object t c j).depth j m
  frame_waiting_other k j few low ne = frame_turn_lem k j few low ∙ rw (ne_eqb (object_record t c.ipdus j).ipdu k ne)
