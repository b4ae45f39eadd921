-- The check accepts a table exactly where it has no wrong record (`accepted_right`, `right_accepted`), and what such a table
-- gives to its users: every I-PDU number, sending object and bit place in range, every filter usable.
-- Assumes nothing.
use Rattle.std.proofs.Common.{Result, Ok, Err, true, false, not, ◌&&◌, ◌||◌, List, ⊎_elim, ◌≡◌, refl, ap, ℕ}
use Rattle.std.proofs.Common.{zero, suc, ◌%◌, ◌≤◌, ◌<◌, zero-le, arith, ltb-true, ltb-false, eqb-true, eq-eqb, le-ltb, ltb, eqb}
use borrow.Author.Tests.{not-false}
use Rattle.memory.specs.Search.{least}
use Rattle.memory.proofs.Search.{least_none, least_before, sum_more}
use Rattle.memory.proofs.Tests.{and_split, or_split, or_cases, true_or_false}
use Rattle.bits.specs.Bits.{room}
use Rattle.bits.specs.Slots.{position, InSlot}
use Rattle.filter.specs.Filters.{greatest_count}
use Rattle.filter.proofs.Laws.{right_count}
use Rattle.table.specs.declared.Counts.{Counts}
use Rattle.table.specs.declared.ObjectRecord.{ObjectRecord}
use Rattle.table.specs.declared.WrongRecord.{WrongRecord}
use Rattle.table.specs.declared.WrongRecord.TheVariants.{Header, Ipdu, Object}
use Rattle.table.specs.Records.{most_queued, sending, counts, ipdu_record, object_record}
use Rattle.table.specs.Rules.{header_right, order_of, references, without_ipdu, within_ipdu, record_filter}
use Rattle.table.specs.Check.{wrong_ipdu, wrong_alone, depths, past_depth, wrong_object, check_objects, check_ipdus, check, Right}
use Rattle.table.proofs.Facts.{ObjectFacts, object_facts, ByteFacts, byte_facts, or_right, InIpdu, in_ipdu, picked}
use Rattle.table.proofs.Verdicts.{header_shape}

-- ---- accepted where nothing is wrong

pub right_accepted : (t : List ℕ) (c : Counts) → Right t c → check t ≡ Ok c
unfolding check
right_accepted t c r =
    let ipdus : least c.ipdus (wrong_ipdu t) ≡ c.ipdus = least_none c.ipdus (wrong_ipdu t) (λ k h. ap not (r.ipdus k h)) in
    let objects : least c.objects (wrong_object t c) ≡ c.objects = least_none c.objects (wrong_object t c) fine in
    rw (r.header, ← r.counted, ipdus, le-ltb c.ipdus c.ipdus (omega arith), objects, le-ltb c.objects c.objects (omega arith))
  where
    fine : (i : ℕ) → i < c.objects → wrong_object t c i ≡ false
    fine i h =
        let low : past_depth t c i ≡ false =
        le-ltb most_queued (depths t c (suc i)) (omega (arith, r.depth, sum_more c.objects (suc i) (λ j. (object_record t c.ipdus j).depth) h)) in
        rw (r.objects i h) low

-- ---- nothing wrong where accepted

module _ (t : List ℕ) where
  none_wrong : (c : Counts) → c ≡ counts t → header_right t ≡ true → ((k : ℕ) → k < c.ipdus → wrong_ipdu t k ≡ false)
      → ((i : ℕ) → i < c.objects → wrong_object t c i ≡ false) → Right t c
  none_wrong c e h ipdus objects =
      record {
        header = h;
        counted = e;
        shape = rw e (header_shape t h);
        ipdus = λ k b. not-false _ (ipdus k b);
        objects = λ i b. not-false _ (or_split (wrong_alone t c i) (past_depth t c i) (objects i b)).0;
        depth = low c.objects (omega arith);
      }
    where
      low : (k : ℕ) → k ≤ c.objects → depths t c k ≤ most_queued
      low zero b = zero-le
      low (suc i) b =
          ltb-false most_queued (depths t c (suc i)) (or_split (wrong_alone t c i) (past_depth t c i) (objects i b)).1

  pub accepted_right : (c : Counts) → check t ≡ Ok c → Right t c
  unfolding check
  accepted_right c e = ⊎_elim header (λ h. absurd (wrong (rw h at e))) (true_or_false (header_right t))
    where
      d : Counts
      d = counts t

      wrong : Err Header ≡ Ok c → ⊥
      wrong f = let z : ◌≡◌ {A = ℕ} 0 1 = cc in omega arith

      objects : header_right t ≡ true → (k : ℕ) → k ≡ least d.ipdus (wrong_ipdu t) → d.ipdus ≤ k → (i : ℕ)
          → i ≡ least d.objects (wrong_object t d) → check_objects t d i ≡ Ok c → Right t c
      objects h k first past i least-i f =
          ⊎_elim
          (λ below. absurd (bad (rw below at f)))
          (λ above.
          let same : c ≡ d = accepted (rw above at f) in
          let all : d.objects ≤ i = ltb-false i d.objects above in
          rw same
          (none_wrong d refl h
          (λ j b. least_before d.ipdus (wrong_ipdu t) j (omega arith))
          (λ j b. least_before d.objects (wrong_object t d) j (omega arith))))
          (true_or_false (ltb i d.objects))
        where
          bad : Err (Object (record { 0 = i })) ≡ Ok c → ⊥
          bad g = let z : ◌≡◌ {A = ℕ} 0 1 = cc in omega arith

          accepted : ◌≡◌ {A = Result Counts WrongRecord} (Ok d) (Ok c) → c ≡ d
          accepted g = cc

      ipdus : header_right t ≡ true → (k : ℕ) → k ≡ least d.ipdus (wrong_ipdu t) → check_ipdus t d k ≡ Ok c → Right t c
      ipdus h k first f =
          ⊎_elim
          (λ below. absurd (bad (rw below at f)))
          (λ above.
          objects h k first (ltb-false k d.ipdus above) (least d.objects (wrong_object t d)) refl (rw above at f))
          (true_or_false (ltb k d.ipdus))
        where
          bad : Err (Ipdu (record { 0 = k })) ≡ Ok c → ⊥
          bad g = let z : ◌≡◌ {A = ℕ} 0 1 = cc in omega arith

      header : header_right t ≡ true → Right t c
      header h = ipdus h (least d.ipdus (wrong_ipdu t)) refl (rw h at e)

-- ---- what a right table gives

-- an order of an object outside any I-PDU is little
whole_order : (n : ℕ) → (eqb n 0 || eqb n 2) ≡ true → n % 2 ≡ 0
whole_order n e = ⊎_elim (λ h. omega (arith, eqb-true n 0 h)) (λ h. omega (arith, eqb-true n 2 h)) (or_cases (eqb n 0) (eqb n 2) e)

-- an object's number of I-PDU and sending object, its bits, its depth and the counts of its filter
pub record Usable (t : List ℕ) (c : Counts) (r : ObjectRecord) : Type 0 where
  pub start : r.start < 64
  pub slot : InSlot (position (order_of r.order) r.start) r.size
  pub ipdu : eqb r.ipdu 255 ≡ false → (r.ipdu < c.ipdus) × ((ipdu_record t r.ipdu).direction ≡ r.kind)
  pub room : eqb r.ipdu 255 ≡ false → room (order_of r.order) r.start r.size (ipdu_record t r.ipdu).length ≡ true
  pub sender : eqb r.sender 255 ≡ false → (r.sender < c.objects) × ((object_record t c.ipdus r.sender).kind ≡ sending)
  pub depth : r.depth ≤ 16
  pub count : greatest_count (record_filter r) < 256

pub usable : (t : List ℕ) (c : Counts) → Right t c → (i : ℕ) → i < c.objects → Usable t c (object_record t c.ipdus i)
unfolding references
usable t c right i h =
    record {
      start = place.0;
      slot = place.1;
      ipdu = λ some. let here = inside some in (here.number, here.direction);
      room = λ some. (inside some).room;
      sender = sender;
      depth = bytes.depths;
      count = right_count r.filter r.first r.second facts.filters;
    }
  where
    r : ObjectRecord
    r = object_record t c.ipdus i

    facts : ObjectFacts (object_record t c.ipdus i) (references t c (object_record t c.ipdus i))
    facts = object_facts r (references t c r) (right.objects i h)

    bytes : ByteFacts (object_record t c.ipdus i)
    bytes = byte_facts r facts.bytes

    inside : eqb r.ipdu 255 ≡ false → InIpdu t c (object_record t c.ipdus i)
    inside some =
        let away : without_ipdu r ≡ false = rw some in
        in_ipdu t c right.ipdus r facts (or_right (without_ipdu r) (within_ipdu r (references t c r)) away facts.places)

    -- start 0, 32 bits, little, signed or not
    unplaced : without_ipdu r ≡ true → (r.start < 64) × InSlot (position (order_of r.order) r.start) r.size
    unplaced e =
        let last = and_split (eqb r.ipdu 255 && eqb r.start 0 && eqb r.size 32) (eqb r.order 0 || eqb r.order 2) e in
        let mid = and_split (eqb r.ipdu 255 && eqb r.start 0) (eqb r.size 32) last.0 in
        let start : r.start ≡ 0 = eqb-true _ _ (and_split (eqb r.ipdu 255) (eqb r.start 0) mid.0).1 in
        let size : r.size ≡ 32 = eqb-true _ _ mid.1 in
        let little : eqb (r.order % 2) 0 ≡ true = eq-eqb (r.order % 2) 0 (whole_order r.order last.1) in
        rw (start, size, little) (omega arith, record { some = omega arith; most = omega arith; inside = unfold position in omega arith })

    place : (r.start < 64) × InSlot (position (order_of r.order) r.start) r.size
    place =
        ⊎_elim unplaced
        (λ away.
        let here = in_ipdu t c right.ipdus r facts (or_right (without_ipdu r) (within_ipdu r (references t c r)) away facts.places) in
        (here.start, here.slot))
        (true_or_false (without_ipdu r))

    sender : eqb r.sender 255 ≡ false → (r.sender < c.objects) × ((object_record t c.ipdus r.sender).kind ≡ sending)
    sender some =
        let x = references t c r in
        let same : x.sender_kind ≡ 1 = eqb-true _ _ (or_right (eqb r.sender 255) (eqb x.sender_kind 1) some facts.senders) in
        let exists : ltb r.sender c.objects ≡ true = picked _ _ 1 (omega arith) same in
        (ltb-true _ _ exists, rw exists at same)
