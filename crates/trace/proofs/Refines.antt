-- Working memory refines the book of demand 3: old values, counts, stopped, and each bit of each send I-PDU.
-- Assumes nothing.
use Rattle.std.proofs.Common.{Bool, true, false, List, inl, inr, ⊎_elim, ◌≡◌, sym, ap, ap₂, ◌∙◌, ℕ, ◌*◌, ◌≤◌, ◌<◌, arith, eqb-true, eq-eqb, ne_eqb, eqb, length}
use borrow.Author.Tests.{eqb-false}
use Rattle.memory.specs.Bytes.{part}
use Rattle.memory.specs.Search.{pick, any_below}
use Rattle.memory.proofs.Parts.{part_length}
use Rattle.memory.proofs.Search.{Found, found, nowhere, there, any_some, least_at}
use Rattle.memory.proofs.Tests.{true_or_false, true_not_false, lt_or_le}
use Rattle.bits.specs.Bits.{frame_bit, place, owns, packed}
use Rattle.bits.proofs.RoundTrip.{Fits, packed_own, packed_other}
use Rattle.bits.proofs.Places.{room_slot}
use Rattle.table.specs.declared.Counts.{Counts}
use Rattle.config.specs.declared.Object.{Object}
use Rattle.table.specs.declared.ObjectRecord.{ObjectRecord}
use Rattle.table.specs.Records.{sending, absent, ipdu_record, object_record}
use Rattle.table.specs.Rules.{order_of}
use Rattle.table.specs.Check.{Right}
use Rattle.config.specs.Decode.{object_of}
use Rattle.table.proofs.Accepted.{usable}
use Rattle.table.proofs.Facts.{ipdu_facts}
use Rattle.state.specs.declared.ObjectState.{ObjectState}
use Rattle.state.specs.Layout.{memory_size, running_at, with_running, slot_at, object_state}
use Rattle.state.specs.Ranges.{Ready}
use Rattle.state.proofs.Running.{running_stored, running_part, running_row, ready_running}
use Rattle.message.specs.Objects.{object, Placed, pack}
use Rattle.message.proofs.ObjectsInRange.{right_placed}
use Rattle.calls.proofs.SlotRows.{pack_apart, pack_holds}
use Rattle.calls.proofs.SendParts.{start_bit_lem, size_some, low_ipdu}
use Rattle.trace.specs.Book.{Entry, Book, enter, last_of, message_bit, book_bit}
use Rattle.trace.proofs.BookUnchanged.{BookUnchanged}

-- ---- a packed slot, bit by bit

-- the bits that the message owns are those of the value, the others are as they were
packed_bit : (r : ObjectRecord) (v : ℕ) (f : List ℕ) → Fits (order_of r.order) r.start r.size (length f) → (p : ℕ) → p < 8 * length f
    → frame_bit (packed (order_of r.order) r.start r.size v f) p
    ≡ pick (owns (order_of r.order) r.start r.size p) (message_bit r v p) (frame_bit f p)
unfolding owns
packed_bit r v f fits p low = cases (found r.size test)
  where
    test : ℕ → Bool
    test n = eqb (place (order_of r.order) r.start n) p

    cases : Found r.size test
        → frame_bit (packed (order_of r.order) r.start r.size v f) p
        ≡ pick (any_below r.size (λ n. eqb (place (order_of r.order) r.start n) p)) (message_bit r v p) (frame_bit f p)
    cases (there i h before e) =
        let at : place (order_of r.order) r.start i ≡ p = eqb-true (place (order_of r.order) r.start i) p e in
        rw (any_some r.size (λ n. eqb (place (order_of r.order) r.start n) p) i h e, least_at r.size (λ n. eqb (place (order_of r.order) r.start n) p) i h before e)
        (rw at at (packed_own (order_of r.order) r.start r.size f fits v i h))
    cases (nowhere before) =
        rw (Rattle.memory.proofs.Search.any_none r.size (λ n. eqb (place (order_of r.order) r.start n) p) before)
        (packed_other (order_of r.order) r.start r.size f fits v p low
        (λ i h at. true_not_false (eq-eqb (place (order_of r.order) r.start i) p at) (before i h)))

-- packing leaves the slots of other I-PDUs
pack_other : (o : Object) (v : ℕ) (m : List ℕ) → Placed o m → (k : ℕ) → (k ≡ o.ipdu.0 → ⊥) → part (slot_at k) 8 (pack o v m) ≡ part (slot_at k) 8 m
pack_other o v m placed k ne =
    pack_apart o v m placed (slot_at k) 8
    (λ e. ⊎_elim (λ (l : k < o.ipdu.0). inl (omega (arith, l))) (λ (g : o.ipdu.0 ≤ k). inr (omega (arith, g, ne))) (lt_or_le k o.ipdu.0))

-- ---- refinement

module _ (t : List ℕ) (c : Counts) where
  pub record Refines (b : Book) (m : List ℕ) : Type 0 where
    pub ready : Ready t c m
    pub running : running_at m ≡ pick b.stopped 0 1
    pub old : (i : ℕ) → i < c.objects → (object_record t c.ipdus i).kind ≡ sending → (object_state m i).old ≡ last_of i b.entries
    pub count : (i : ℕ) → i < c.objects → (object_record t c.ipdus i).kind ≡ sending → (object_state m i).occurrence ≡ b.counts i
    pub bits : (k : ℕ) → k < c.ipdus → (ipdu_record t k).direction ≡ sending → (p : ℕ) → p < 64
        → frame_bit (part (slot_at k) 8 m) p ≡ book_bit t c b.entries k p

  pub refines_unchanged : (b : Book) (m n : List ℕ) → Refines b m → Ready t c n → BookUnchanged t c m n → Refines b n
  refines_unchanged b m n a ready s =
      record {
        ready = ready;
        running = s.running ∙ a.running;
        old = λ i h k. s.old i h k ∙ a.old i h k;
        count = λ i h k. s.count i h k ∙ a.count i h k;
        bits = λ k h d p low. rw (s.slot k h d) (a.bits k h d p low);
      }

  -- noting that the layer runs or is stopped
  pub refines_running : (b : Book) (m : List ℕ) → Refines b m → (off : Bool)
      → Refines (record { entries = b.entries; counts = b.counts; stopped = off }) (with_running m (pick off 0 1))
  refines_running b m a off =
      record {
        ready = ready_running t c m a.ready (pick off 0 1) (few off);
        running = running_stored m (pick off 0 1) long (omega (arith, few off));
        old = λ i h k. ap (λ (x : ObjectState). x.old) (running_row m (pick off 0 1) long i) ∙ a.old i h k;
        count = λ i h k. ap (λ (x : ObjectState). x.occurrence) (running_row m (pick off 0 1) long i) ∙ a.count i h k;
        bits = λ k h d p low. rw (running_part m (pick off 0 1) long (slot_at k) 8 (omega arith)) (a.bits k h d p low);
      }
    where
      long : length m ≡ memory_size
      long = a.ready.long

      few : (x : Bool) → pick x 0 1 ≤ 1
      few true = omega arith
      few false = omega arith

  -- ---- packing is an entry

  -- bits of each send I-PDU after packing
  pub pack_bits : (b : List Entry) (m : List ℕ) → Right t c → length m ≡ memory_size → (i v : ℕ) → (h : i < c.objects)
      → ((k : ℕ) → k < c.ipdus → (ipdu_record t k).direction ≡ sending → (p : ℕ) → p < 64 → frame_bit (part (slot_at k) 8 m) p ≡ book_bit t c b k p)
      → (k : ℕ) → k < c.ipdus → (ipdu_record t k).direction ≡ sending → (p : ℕ) → p < 64
      → frame_bit (part (slot_at k) 8 (pack (object t c i) v m)) p ≡ book_bit t c (enter i v b) k p
  unfolding object_of
  pack_bits b m right long i v h before k low d p few =
      ⊎_elim mine others (true_or_false (eqb (object_record t c.ipdus i).ipdu k))
    where
      r : ObjectRecord
      r = object_record t c.ipdus i

      placed : Placed (object t c i) m
      placed = right_placed t c m right (omega (arith, long)) i h

      -- its own I-PDU
      mine : eqb (object_record t c.ipdus i).ipdu k ≡ true
          → frame_bit (part (slot_at k) 8 (pack (object t c i) v m)) p ≡ book_bit t c (enter i v b) k p
      mine e =
          let same : (object_record t c.ipdus i).ipdu ≡ k = eqb-true (object_record t c.ipdus i).ipdu k e in
          let some : eqb (object_record t c.ipdus i).ipdu absent ≡ false =
          ne_eqb (object_record t c.ipdus i).ipdu absent (λ z. absurd (omega (arith, z, same, low, right.shape.ipdus))) in
          let eight : length (part (slot_at k) 8 m) ≡ 8 = part_length (slot_at k) 8 m (omega (arith, low, long, right.shape.ipdus)) in
          let held : part (slot_at k) 8 (pack (object t c i) v m) ≡ packed (order_of r.order) r.start r.size v (part (slot_at k) 8 m) =
          ap (λ (n : ℕ). part (slot_at n) 8 (pack (object t c i) v m)) (sym same) ∙ pack_holds (object t c i) v m placed some
          ∙ ap₂ (λ (s : ℕ) (n : ℕ). packed (order_of r.order) s r.size v (part (slot_at n) 8 m)) (start_bit_lem t c right i h) same in
          let fits : Fits (order_of r.order) r.start r.size (length (part (slot_at k) 8 m)) =
          rw eight
          (record {
            some = size_some t c right i h;
            short = omega arith;
            inside =
                room_slot (order_of r.order) r.start r.size (ipdu_record t r.ipdu).length
                (ipdu_facts (ipdu_record t r.ipdu) (right.ipdus r.ipdu (low_ipdu t c right i h some))).most ((usable t c right i h).room some);
          }) in
          rw (held, e)
          (packed_bit r v (part (slot_at k) 8 m) fits p (omega (arith, eight, few))
          ∙ ap (λ (x : ℕ). pick (owns (order_of r.order) r.start r.size p) (message_bit r v p) x) (before k low d p few))

      others : eqb (object_record t c.ipdus i).ipdu k ≡ false
          → frame_bit (part (slot_at k) 8 (pack (object t c i) v m)) p ≡ book_bit t c (enter i v b) k p
      others e =
          let apart : (object_record t c.ipdus i).ipdu ≡ k → ⊥ = eqb-false (object_record t c.ipdus i).ipdu k e in
          rw (e, pack_other (object t c i) v m placed k (λ z. apart (sym z))) (before k low d p few)
