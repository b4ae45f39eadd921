-- Demand 2 over lists of calls, the receivers: what a frame or an internal sender brings to a receive object arrives there.
-- Assumes: the table holds bytes, and arguments are of the types that the calls take (`Typed`).
use Rattle.std.proofs.Common.{true, false, List, ◌++◌, inr, ◌≡◌, refl, sym, ap, ◌∙◌, ℕ, ◌+◌, ◌^◌, ◌≤◌, ◌<◌, arith, eq-eqb, ne_eqb, lt-ltb, le-leb, eqb, length, take, drop, take-append-drop}
use Rattle.memory.specs.Bytes.{Bytes, part, replaced}
use Rattle.memory.proofs.Parts.{part_replaced, part_apart, part_front}
use Rattle.memory.proofs.Search.{picked}
use Rattle.bits.specs.declared.Order.{Order}
use Rattle.bits.specs.Bits.{room, unpacked, extended}
use Rattle.bits.proofs.RoundTrip.{unpacked_front}
use Rattle.table.specs.declared.Counts.{Counts}
use Rattle.table.specs.Records.{receiving, sending, absent, counts, ipdu_record, object_record}
use Rattle.table.specs.Rules.{order_of, signed_of}
use Rattle.config.specs.Decode.{object_of}
use Rattle.table.proofs.Accepted.{usable}
use Rattle.state.specs.Layout.{area_size, slot_at, ipdu_state, object_state}
use Rattle.state.specs.Ranges.{Ready}
use Rattle.state.proofs.RowLaws.{ipdu_part}
use Rattle.message.specs.Objects.{object, passes_filter, unpack, pack}
use Rattle.delivery.specs.Delivery.{deliver_inside, deliver_frame}
use Rattle.message.proofs.ObjectsInRange.{ready_pack, ready_placed, unpack_lt}
use Rattle.delivery.proofs.DeliveredRows.{inside_row, frame_row}
use Rattle.delivery.proofs.Deliveries.{inside_waiting, frame_waiting}
use Rattle.transmission.specs.Requests.{ipdu, timer_set}
use Rattle.calls.specs.Answers.{Outcome}
use Rattle.calls.specs.Calls.{is_object, request, send_in, timed, indication_in}
use Rattle.calls.proofs.Records.{object_kind, ipdu_short}
use Rattle.calls.proofs.SlotRows.{pack_behind, request_behind}
use Rattle.calls.proofs.SendParts.{start_bit_lem, here, inner, judge, after, inner_ready, after_ready, sent_as}
use Rattle.calls.proofs.ReadyKept.{ready_copied, ready_delivered}
use Rattle.layer.specs.Admission.{working_memory}
use Rattle.layer.specs.Step.{Call, send, indication, told_send, step}
use Rattle.trace.specs.Book.{Book, sends, accepts, after_send, advance}
use Rattle.trace.specs.RoundTrip.{reading_in, Runs, memory_of, Takes, Arrived}
use Rattle.trace.proofs.Receivers.{ready, Still, Reached, runs_live, still_twice, still_behind, still_other, reached_still, reached, arrives}

-- ---- indication

-- bytes that were copied to the front of a slot unpack as by themselves
copied_trip : (o : Order) (first size : ℕ) (f m : List ℕ) (at : ℕ) → 0 < size → length f ≤ 8 → room o first size (length f) ≡ true
    → at + 8 ≤ length m → unpacked o first size (part at 8 (replaced at f m)) ≡ unpacked o first size f
copied_trip o first size f m at some few fits there =
    let s = part at 8 (replaced at f m) in
    let front : take (length f) s ≡ f = part_front at (length f) 8 (replaced at f m) few ∙ part_replaced at f m (omega (arith, few, there)) in
    ap (unpacked o first size) (sym (take-append-drop (length f) s) ∙ ap (λ (g : List ℕ). g ++ drop (length f) s) front)
    ∙ unpacked_front o first size f (drop (length f) s) (record { some = some; short = few; inside = fits })

module _ (t : List ℕ) (c : Counts) (m : List ℕ) (ready : Ready t c m) (j : ℕ) (low : j < c.objects)
    (in_table : (object_record t c.ipdus j).ipdu < c.ipdus) (f : List ℕ) (bytes : Bytes f)
    (long : length f ≡ (ipdu_record t (object_record t c.ipdus j).ipdu).length) where
  few : length f ≤ 8
  few = omega (arith, long, ipdu_short t c ready.right (object_record t c.ipdus j).ipdu in_table)

  below : (object_record t c.ipdus j).ipdu < 32
  below = omega (arith, in_table, ready.right.shape.ipdus)

  some : eqb (object_record t c.ipdus j).ipdu absent ≡ false
  some = ne_eqb (object_record t c.ipdus j).ipdu absent (omega (arith, below))

  abbrev copied : List ℕ
  copied = replaced (slot_at (object_record t c.ipdus j).ipdu) f m

  slot_room : slot_at (object_record t c.ipdus j).ipdu + length f ≤ length m
  slot_room = omega (arith, below, few, ready.long)

  copied_ready : Ready t c (replaced (slot_at (object_record t c.ipdus j).ipdu) f m)
  copied_ready = ready_copied t c m ready (object_record t c.ipdus j).ipdu in_table f bytes long

  copied_still : Still t c j low m (replaced (slot_at (object_record t c.ipdus j).ipdu) f m)
  copied_still =
      still_behind t c j low m copied ready
      (λ at w high. part_apart (slot_at (object_record t c.ipdus j).ipdu) f m at w slot_room (inr (omega (arith, below, few, high))))

  pub copied_value : unpack (object t c j) (replaced (slot_at (object_record t c.ipdus j).ipdu) f m) ≡ reading_in (object_record t c.ipdus j) f
  unfolding unpack object_of
  copied_value =
      let r = object_record t c.ipdus j in
      let u = usable t c ready.right j low in
      ap (extended (signed_of r.order) r.size)
      (ap (λ (n : ℕ). unpacked (order_of r.order) n r.size (part (slot_at r.ipdu) 8 copied)) (start_bit_lem t c ready.right j low)
      ∙ copied_trip (order_of r.order) r.start r.size f m (slot_at r.ipdu) u.slot.some few (rw long (u.room some)) (omega (arith, below, ready.long)))

  abbrev delivery : List ℕ
  delivery = deliver_frame t c (object_record t c.ipdus j).ipdu copied

  delivery_ready : Ready t c (deliver_frame t c (object_record t c.ipdus j).ipdu copied)
  delivery_ready = ready_delivered t c m ready (object_record t c.ipdus j).ipdu in_table f bytes long

  -- the timer changes no object
  timed_still : Still t c j low delivery (timed t (object_record t c.ipdus j).ipdu delivery)
  timed_still =
      let k = (object_record t c.ipdus j).ipdu in
      still_behind t c j low delivery (timed t k delivery) delivery_ready
      (λ at w high.
      ipdu_part delivery k (timer_set (ipdu t k) (ipdu_state delivery k)) (omega (arith, below, delivery_ready.long)) at w (inr (omega (arith, below, high))))

  indicated : (object_record t c.ipdus j).kind ≡ receiving
      → (indication_in t c (object_record t c.ipdus j).ipdu true f m).memory ≡ timed t (object_record t c.ipdus j).ipdu delivery
  unfolding indication_in
  indicated kind =
      let k = (object_record t c.ipdus j).ipdu in
      let two : (ipdu_record t k).direction ≡ receiving = ((usable t c ready.right j low).ipdu some).1 ∙ kind in
      rw (lt-ltb k c.ipdus in_table, two, eq-eqb (length f) (ipdu_record t k).length long)

  -- the object gets its bits of the frame
  frame_reached : (object_record t c.ipdus j).kind ≡ receiving → passes_filter (object t c j) (reading_in (object_record t c.ipdus j) f) (object_state m j) ≡ true
      → Reached t c j low (reading_in (object_record t c.ipdus j) f) m (indication_in t c (object_record t c.ipdus j).ipdu true f m).memory
  frame_reached kind passes =
      let k = (object_record t c.ipdus j).ipdu in
      let v = reading_in (object_record t c.ipdus j) f in
      rw (indicated kind)
      (reached_still t c j low v m copied delivery (timed t k delivery) copied_still
      (reached t c j low v copied delivery copied_ready (rw copied_value at (unpack_lt t c copied copied_ready j low)) (rw copied_still.row passes)
      (rw copied_value at (frame_row t c copied copied_ready k j below low refl))
      (rw copied_value at (frame_waiting t c copied copied_ready k j below low refl)))
      timed_still)

-- a good indication of an object's I-PDU brings it its reading in the frame
pub indication_arrives : (t : List ℕ) → Bytes t → (calls : List Call) (m : List ℕ) → Runs t calls m → (f : List ℕ) → Bytes f → (j : ℕ)
    → (object_record t (counts t).ipdus j).ipdu < (counts t).ipdus → length f ≡ (ipdu_record t (object_record t (counts t).ipdus j).ipdu).length
    → Takes t j (reading_in (object_record t (counts t).ipdus j) f) (memory_of t calls m)
    → Arrived t j (reading_in (object_record t (counts t).ipdus j) f) (memory_of t calls m)
    (step t (indication (object_record t (counts t).ipdus j).ipdu true f) (memory_of t calls m)).memory
unfolding advance
indication_arrives t bt calls m r f bytes j in_table long x =
    let n = memory_of t calls m in
    let live = runs_live t bt calls m r in
    arrives t n live (indication (object_record t (counts t).ipdus j).ipdu true f) (tt, bytes) refl refl live.on j
    (reading_in (object_record t (counts t).ipdus j) f) x
    (frame_reached t (counts t) (working_memory n) (ready t n live) j x.low in_table f bytes long x.kind x.passes)

-- ---- internal delivery

module _ (t : List ℕ) (c : Counts) (m : List ℕ) (ready : Ready t c m) (i : ℕ) (is : is_object t c sending i ≡ true) (v : ℕ) (small : v < 2 ^ 32)
    (area : List ℕ) (j : ℕ) (low : j < c.objects) (ne : j ≡ i → ⊥) where
  -- after it a send changes nothing of another object
  sent_still : Still t c j low (deliver_inside t c i v m) (send_in t c i v area m).memory
  sent_still =
      let o = object t c i in
      let h = here t c m ready i is v small area in
      let l = inner t c m ready i is v small area in
      let n = after t c m ready i is v small area in
      let next = after_ready t c m ready i is v small area in
      let packed_ready = ready_pack t c n next i h v in
      let first = still_other t c j low l (inner_ready t c m ready i is v small area) i h ne _ in
      rw (sent_as t c m ready i is v small area (judge t c m ready i is v small area) refl)
      (picked (λ (x : Outcome). Still t c j low l x.memory) (judge t c m ready i is v small area) _ _
      (λ p.
      still_twice t c j low l (pack o v n) (request t o area (pack o v n)).memory
      (still_twice t c j low l n (pack o v n) first
      (still_behind t c j low n (pack o v n) next (pack_behind o v n (ready_placed t c n next i h))))
      (still_behind t c j low (pack o v n) (request t o area (pack o v n)).memory packed_ready
      (request_behind t o area (pack o v n) (ready_placed t c (pack o v n) packed_ready i h))))
      (λ p. first))

  -- a receiver inside gets the whole value, also where the sender's filter drops it
  inside_reached : (object_record t c.ipdus j).sender ≡ i → passes_filter (object t c j) v (object_state m j) ≡ true
      → Reached t c j low v m (send_in t c i v area m).memory
  inside_reached from passes =
      reached_still t c j low v m m (deliver_inside t c i v m) (send_in t c i v area m).memory (record { row = refl; queue = refl })
      (reached t c j low v m (deliver_inside t c i v m) ready small passes
      (inside_row t c m ready i v j small low from) (inside_waiting t c m ready i v j small low from))
      sent_still

-- a send brings each receiver inside the whole value
pub inside_arrives : (t : List ℕ) → Bytes t → (calls : List Call) (m : List ℕ) → Runs t calls m → (i j v : ℕ) (area : List ℕ) → v < 2 ^ 32
    → area_size ≤ length area → sends t (counts t) i ≡ true → (object_record t (counts t).ipdus j).sender ≡ i
    → Takes t j v (memory_of t calls m) → Arrived t j v (memory_of t calls m) (step t (send i v area) (memory_of t calls m)).memory
unfolding advance
inside_arrives t bt calls m r i j v area small long is from x =
    let c = counts t in
    let n = memory_of t calls m in
    let live = runs_live t bt calls m r in
    arrives t n live (send i v area) (small, λ i. omega arith) refl (le-leb area_size (length area) long)
    (picked (λ (b : Book). b.stopped ≡ false) (accepts t c live.book (told_send i v) (length area)) (after_send t c live.book i v) live.book (λ y. live.on) (λ y. live.on))
    j v x
    (inside_reached t c (working_memory n) (ready t n live) i is v small area j x.low other from x.passes)
  where
    other : j ≡ i → ⊥
    other e =
        let one : (object_record t (counts t).ipdus i).kind ≡ sending = object_kind t (counts t) 1 i is in
        let two : (object_record t (counts t).ipdus i).kind ≡ receiving = rw e at x.kind in
        omega (arith, one, two)
