-- What deliveries by rising number leave in the row of an object, in it or not, and in the bytes of the I-PDUs.
-- Assumes nothing.
use Rattle.std.proofs.Common.{Bool, true, false, List, ◌≡◌, refl, sym, ap, ◌∙◌, ℕ, ◌^◌, ◌≤◌, ◌<◌, arith, eq-eqb, eqb}
use Rattle.memory.specs.Bytes.{part}
use Rattle.memory.specs.Search.{pick, fold}
use Rattle.memory.proofs.Search.{picked, fold_keeps, fold_view, fold_at}
use Rattle.bits.specs.Bits.{unpacked, extended}
use Rattle.table.specs.declared.Counts.{Counts}
use Rattle.table.specs.Records.{most_ipdus, object_record}
use Rattle.config.specs.Decode.{object_of}
use Rattle.state.specs.declared.ObjectState.{ObjectState}
use Rattle.state.specs.Layout.{slot_at, object_state}
use Rattle.state.specs.Ranges.{Ready}
use Rattle.message.specs.Objects.{object, passes_filter, delivered, deliver, start_bit, unpack}
use Rattle.delivery.specs.Delivery.{deliver_inside, deliver_frame}
use Rattle.message.proofs.ObjectsInRange.{ready_deliver, unpack_lt}
use Rattle.message.proofs.Apart.{deliver_other, deliver_slot, deliver_row}

-- ---- deliveries by rising number: to each object that has the test, of a value that may be read from working memory

abbrev pub deliver_turn : List ℕ → Counts → (ℕ → Bool) → (ℕ → List ℕ → ℕ) → ℕ → List ℕ → List ℕ
deliver_turn t c test value i m = pick (test i) (deliver (object t c i) i (value i m) m) m

module _ (t : List ℕ) (c : Counts) (m : List ℕ) (ready : Ready t c m) (test : ℕ → Bool) (value : ℕ → List ℕ → ℕ)
    (small : (i : ℕ) → i < c.objects → (n : List ℕ) → Ready t c n → value i n < 2 ^ 32) where
  pub turns_ready : (n : ℕ) → n ≤ c.objects → Ready t c (fold n (deliver_turn t c test value) m)
  turns_ready n h =
      fold_keeps (Ready t c) n (deliver_turn t c test value)
      (λ i b l r.
      picked (Ready t c) (test i) (deliver (object t c i) i (value i l) l) l
      (λ e. ready_deliver t c l r i (omega (arith, b, h)) (value i l) (small i (omega (arith, b, h)) l r)) (λ e. r))
      m ready

  -- what a delivery to another object keeps
  turn_keeps {κ} : {B : Type κ} (view : List ℕ → B) (i : ℕ) (l : List ℕ)
      → view (deliver (object t c i) i (value i l) l) ≡ view l → view (deliver_turn t c test value i l) ≡ view l
  turn_keeps view i l e = picked (λ (x : List ℕ). view x ≡ view l) (test i) (deliver (object t c i) i (value i l) l) l (λ y. e) (λ n. refl)

  pub turns_slot : (n : ℕ) → n ≤ c.objects → (k : ℕ) → k < most_ipdus
      → part (slot_at k) 8 (fold n (deliver_turn t c test value) m) ≡ part (slot_at k) 8 m
  turns_slot n h k low =
      fold_view (part (slot_at k) 8) n (deliver_turn t c test value) m
      (λ i b.
      let l = fold i (deliver_turn t c test value) m in
      turn_keeps (part (slot_at k) 8) i (fold i (deliver_turn t c test value) m)
      (deliver_slot t c (fold i (deliver_turn t c test value) m) (turns_ready i (omega (arith, b, h))) i (omega (arith, b, h)) (value i l) k low))

  other_turn : (j : ℕ) → j < c.objects → (i : ℕ) → i < c.objects → (i ≡ j → ⊥)
      → object_state (deliver_turn t c test value i (fold i (deliver_turn t c test value) m)) j
      ≡ object_state (fold i (deliver_turn t c test value) m) j
  other_turn j low i b ne =
      turn_keeps (λ (l : List ℕ). object_state l j) i (fold i (deliver_turn t c test value) m)
      (deliver_other t c (fold i (deliver_turn t c test value) m) (turns_ready i (omega (arith, b))) i b
      (value i (fold i (deliver_turn t c test value) m)) j (omega (arith, low, ready.right.shape.objects)) (λ e. ne (sym e)))

  row_before : (j : ℕ) → j < c.objects → object_state (fold j (deliver_turn t c test value) m) j ≡ object_state m j
  row_before j low =
      fold_view (λ (l : List ℕ). object_state l j) j (deliver_turn t c test value) m
      (λ i b. other_turn j low i (omega (arith, b, low)) (λ e. absurd (omega (arith, b, e))))

  -- the row of an object that has not the test
  pub row_apart : (j : ℕ) → j < c.objects → test j ≡ false → object_state (fold c.objects (deliver_turn t c test value) m) j ≡ object_state m j
  row_apart j low no-j =
      fold_at (λ (l : List ℕ). object_state l j) c.objects (deliver_turn t c test value) m j low (other_turn j low)
      ∙ rw no-j (row_before j low)

  -- the row of an object that has the test
  pub row_after : (j : ℕ) → j < c.objects → test j ≡ true → (v : ℕ) → v ≡ value j (fold j (deliver_turn t c test value) m)
      → object_state (fold c.objects (deliver_turn t c test value) m) j
      ≡ delivered (passes_filter (object t c j) v (object_state m j)) (object t c j) v (object_state m j)
  row_after j low yes-j v e =
      fold_at (λ (l : List ℕ). object_state l j) c.objects (deliver_turn t c test value) m j low (other_turn j low)
      ∙ here
    where
      l : List ℕ
      l = fold j (deliver_turn t c test value) m

      r : Ready t c (fold j (deliver_turn t c test value) m)
      r = turns_ready j (omega (arith, low))

      here : object_state (deliver_turn t c test value j (fold j (deliver_turn t c test value) m)) j
          ≡ delivered (passes_filter (object t c j) v (object_state m j)) (object t c j) v (object_state m j)
      here =
          rw (yes-j, ← e)
          (deliver_row t c (fold j (deliver_turn t c test value) m) r j low v (rw e (small j low (fold j (deliver_turn t c test value) m) r))
          ∙ ap (λ (s : ObjectState). delivered (passes_filter (object t c j) v s) (object t c j) v s) (row_before j low))

-- internal delivery passes the whole value
pub inside_row : (t : List ℕ) (c : Counts) (m : List ℕ) → Ready t c m → (sender v j : ℕ) → v < 2 ^ 32 → j < c.objects
    → (object_record t c.ipdus j).sender ≡ sender
    → object_state (deliver_inside t c sender v m) j
    ≡ delivered (passes_filter (object t c j) v (object_state m j)) (object t c j) v (object_state m j)
unfolding deliver_inside
inside_row t c m ready sender v j small low e =
    row_after t c m ready (λ i. eqb (object_record t c.ipdus i).sender sender) (λ i l. v) (λ i b l r. small) j low
    (eq-eqb (object_record t c.ipdus j).sender sender e) v refl

-- and nothing to an object of another sender
pub inside_apart : (t : List ℕ) (c : Counts) (m : List ℕ) → Ready t c m → (sender v j : ℕ) → v < 2 ^ 32 → j < c.objects
    → eqb (object_record t c.ipdus j).sender sender ≡ false → object_state (deliver_inside t c sender v m) j ≡ object_state m j
unfolding deliver_inside
inside_apart t c m ready sender v j small =
    row_apart t c m ready (λ i. eqb (object_record t c.ipdus i).sender sender) (λ i l. v) (λ i b l r. small) j

-- an object of an I-PDU gets its bits of it
pub frame_row : (t : List ℕ) (c : Counts) (m : List ℕ) → Ready t c m → (k j : ℕ) → k < most_ipdus → j < c.objects
    → (object_record t c.ipdus j).ipdu ≡ k
    → object_state (deliver_frame t c k m) j
    ≡ delivered (passes_filter (object t c j) (unpack (object t c j) m) (object_state m j)) (object t c j) (unpack (object t c j) m) (object_state m j)
unfolding deliver_frame unpack object_of
frame_row t c m ready k j few low e =
    row_after t c m ready (λ i. eqb (object_record t c.ipdus i).ipdu k) (λ i l. unpack (object t c i) l) (λ i b l r. unpack_lt t c l r i b) j low
    (eq-eqb (object_record t c.ipdus j).ipdu k e) (unpack (object t c j) m) same
  where
    same : unpack (object t c j) m
        ≡ unpack (object t c j) (fold j (deliver_turn t c (λ i. eqb (object_record t c.ipdus i).ipdu k) (λ i l. unpack (object t c i) l)) m)
    same =
        ap (λ (f : List ℕ). extended (object t c j).signed (object t c j).size.0 (unpacked (object t c j).order (start_bit (object t c j)) (object t c j).size.0 f))
        (sym (turns_slot t c m ready (λ i. eqb (object_record t c.ipdus i).ipdu k) (λ i l. unpack (object t c i) l) (λ i b l r. unpack_lt t c l r i b) j (omega (arith, low))
        (object_record t c.ipdus j).ipdu (omega (arith, e, few))))

-- and an object of another I-PDU gets nothing
pub frame_apart : (t : List ℕ) (c : Counts) (m : List ℕ) → Ready t c m → (k j : ℕ) → j < c.objects
    → eqb (object_record t c.ipdus j).ipdu k ≡ false → object_state (deliver_frame t c k m) j ≡ object_state m j
unfolding deliver_frame
frame_apart t c m ready k =
    row_apart t c m ready (λ i. eqb (object_record t c.ipdus i).ipdu k) (λ i l. unpack (object t c i) l) (λ i b l r. unpack_lt t c l r i b)
