-- What a right record says, field by field.
-- Assumes nothing.
use Rattle.std.proofs.Common.{Bool, true, false, not, ◌&&◌, ◌||◌, ◌⊎◌, inl, inr, ⊎_elim, List, [], ◌∷◌, ◌≡◌, refl, ℕ, ◌≤◌, ◌<◌, arith, leb-true, ltb-true, eqb-true, leb, ltb, eqb}
use Rattle.memory.specs.Search.{pick}
use Rattle.memory.proofs.Tests.{and_split, each_true, or_cases, true_not_false, lt_or_le}
use Rattle.bits.specs.Bits.{room}
use Rattle.bits.specs.Slots.{position, InSlot}
use Rattle.bits.proofs.Places.{run, room_slot}
use Rattle.filter.specs.Filters.{filter_right}
use Rattle.table.specs.declared.Counts.{Counts}
use Rattle.table.specs.declared.IpduRecord.{IpduRecord}
use Rattle.table.specs.declared.ObjectRecord.{ObjectRecord}
use Rattle.table.specs.declared.References.{References}
use Rattle.table.specs.Records.{receiving, sending, absent, ipdu_record}
use Rattle.table.specs.Rules.{ipdu_right, send_ipdu, receive_ipdu, order_of, references, send_object, receive_object, without_ipdu, within_ipdu, sender_right, bytes_right, object_right}
use Rattle.table.proofs.Turns.{or_false}

-- ---- object records

pub record ObjectFacts (r : ObjectRecord) (x : References) : Type 0 where
  pub bytes : bytes_right r ≡ true
  pub kinds : (send_object r || receive_object r) ≡ true
  pub places : (without_ipdu r || within_ipdu r x) ≡ true
  pub senders : sender_right r x ≡ true
  pub filters : filter_right r.filter r.first r.second ≡ true

pub object_facts : (r : ObjectRecord) (x : References) → object_right r x ≡ true → ObjectFacts r x
unfolding object_right
object_facts r x e =
    let all =
    each_true (bytes_right r)
    ((send_object r || receive_object r) ∷ (without_ipdu r || within_ipdu r x) ∷ sender_right r x
    ∷ filter_right r.filter r.first r.second ∷ []) e in
    search

-- the limits of its bytes
pub record ByteFacts (r : ObjectRecord) : Type 0 where
  pub least : 1 ≤ r.size
  pub most : r.size ≤ 32
  pub orders : r.order ≤ 3
  pub transfers : r.transfer ≤ 1
  pub depths : r.depth ≤ 16
  pub above_filter : r.zero_9 ≡ 0
  pub above_that : r.zero_10 ≡ 0
  pub tail : r.zero_24 ≡ 0

pub byte_facts : (r : ObjectRecord) → bytes_right r ≡ true → ByteFacts r
byte_facts r e =
    let all =
    each_true (leb 1 r.size)
    (leb r.size 32 ∷ leb r.order 3 ∷ leb r.transfer 1 ∷ leb r.depth 16
    ∷ eqb r.zero_9 0 ∷ eqb r.zero_10 0 ∷ eqb r.zero_24 0 ∷ []) e in
    search (leb-true, eqb-true)

-- its kind, and what goes with it
pub record Sent (r : ObjectRecord) : Type 0 where
  pub kind : r.kind ≡ sending
  pub sender : r.sender ≡ absent
  pub depth : r.depth ≡ 0

pub record Received (r : ObjectRecord) : Type 0 where
  pub kind : r.kind ≡ receiving
  pub transfer : r.transfer ≡ 0
  pub one : (eqb r.ipdu absent || eqb r.sender absent) ≡ true

pub kind_facts : (r : ObjectRecord) (x : References) → object_right r x ≡ true → Sent r ⊎ Received r
kind_facts r x f = ⊎_elim (λ e. inl (sends e)) (λ e. inr (receives e)) (or_cases (send_object r) (receive_object r) (object_facts r x f).kinds)
  where
    sends : send_object r ≡ true → Sent r
    sends e = let all = each_true (eqb r.kind sending) (eqb r.sender absent ∷ eqb r.depth 0 ∷ []) e in search eqb-true

    receives : receive_object r ≡ true → Received r
    receives e =
        let all = each_true (eqb r.kind receiving) (eqb r.transfer 0 ∷ (eqb r.ipdu absent || eqb r.sender absent) ∷ []) e in
        search eqb-true

-- ---- I-PDU records

pub record IpduFacts (r : IpduRecord) : Type 0 where
  pub least : 1 ≤ r.length
  pub most : r.length ≤ 8
  pub modes : r.mode ≤ 2
  pub above_mode : r.zero_3 ≡ 0
  pub tail : r.zero_14 ≡ 0
  pub directions : (eqb r.direction sending && send_ipdu r || eqb r.direction receiving && receive_ipdu r) ≡ true

pub ipdu_facts : (r : IpduRecord) → ipdu_right r ≡ true → IpduFacts r
unfolding ipdu_right
ipdu_facts r e =
    let all =
    each_true (leb 1 r.length)
    (leb r.length 8 ∷ leb r.mode 2 ∷ eqb r.zero_3 0 ∷ eqb r.zero_14 0
    ∷ (eqb r.direction sending && send_ipdu r || eqb r.direction receiving && receive_ipdu r) ∷ []) e in
    search (leb-true, eqb-true)

pub direction_known : (r : IpduRecord) → ipdu_right r ≡ true → (r.direction ≡ sending) ⊎ (r.direction ≡ receiving)
direction_known r e =
    ⊎_elim
    (λ s. inl (eqb-true _ _ (and_split (eqb r.direction sending) (send_ipdu r) s).0))
    (λ s. inr (eqb-true _ _ (and_split (eqb r.direction receiving) (receive_ipdu r) s).0))
    (or_cases (eqb r.direction sending && send_ipdu r) (eqb r.direction receiving && receive_ipdu r) (ipdu_facts r e).directions)

-- of one that is sent
pub record SendFacts (r : IpduRecord) : Type 0 where
  pub deadline : 1 ≤ r.deadline
  pub first : r.first_deadline ≡ 0
  pub times : (eqb r.mode 0 && eqb r.period 0 && eqb r.offset 0 || leb 1 r.mode && leb 1 r.period && leb 1 r.offset) ≡ true
  pub delays : (not (eqb r.mode 1) || eqb r.minimum_delay 0) ≡ true

pub send_facts : (r : IpduRecord) → ipdu_right r ≡ true → r.direction ≡ sending → SendFacts r
send_facts r e one =
    let some : (send_ipdu r || false) ≡ true = rw one at (ipdu_facts r e).directions in
    let all =
    each_true (leb 1 r.deadline)
    (eqb r.first_deadline 0
    ∷ (eqb r.mode 0 && eqb r.period 0 && eqb r.offset 0 || leb 1 r.mode && leb 1 r.period && leb 1 r.offset)
    ∷ (not (eqb r.mode 1) || eqb r.minimum_delay 0) ∷ []) (rw or_false at some) in
    search (leb-true, eqb-true)

-- of one that is received
pub record ReceiveFacts (r : IpduRecord) : Type 0 where
  pub mode : r.mode ≡ 0
  pub period : r.period ≡ 0
  pub offset : r.offset ≡ 0
  pub delay : r.minimum_delay ≡ 0
  pub deadlines : (eqb r.first_deadline 0 || leb 1 r.deadline) ≡ true

pub receive_facts : (r : IpduRecord) → ipdu_right r ≡ true → r.direction ≡ receiving → ReceiveFacts r
receive_facts r e two =
    let some : receive_ipdu r ≡ true = rw two at (ipdu_facts r e).directions in
    let all =
    each_true (eqb r.mode 0)
    (eqb r.period 0 ∷ eqb r.offset 0 ∷ eqb r.minimum_delay 0 ∷ (eqb r.first_deadline 0 || leb 1 r.deadline) ∷ []) some in
    search (leb-true, eqb-true)

-- ---- where an object's bits lie

pub or_right : (a b : Bool) → a ≡ false → (a || b) ≡ true → b ≡ true
or_right true b z e = let w : true ≡ false = z in cc
or_right false b z e = e

-- a number that a lookup gave is above 0 only where the record exists
pub picked : (b : Bool) (n k : ℕ) → 0 < k → pick b n 0 ≡ k → b ≡ true
picked true n k h e = refl
picked false n k h e = let w : 0 ≡ k = e in absurd (omega arith)

-- a right object is sent or received
kind_some : (r : ObjectRecord) → (send_object r || receive_object r) ≡ true → 0 < r.kind
kind_some r e =
    ⊎_elim
    (λ (h : 0 < r.kind). h)
    (λ (h : r.kind ≤ 0).
    let z : r.kind ≡ 0 = omega arith in
    let f : false ≡ true = rw z at e in
    absurd (true_not_false {b = false} f refl))
    (lt_or_le 0 r.kind)

-- an object's bits lie in its I-PDU, which has its direction
pub record InIpdu (t : List ℕ) (c : Counts) (r : ObjectRecord) : Type 0 where
  pub number : r.ipdu < c.ipdus
  pub direction : (ipdu_record t r.ipdu).direction ≡ r.kind
  pub room : room (order_of r.order) r.start r.size (ipdu_record t r.ipdu).length ≡ true
  pub start : r.start < 64
  pub slot : InSlot (position (order_of r.order) r.start) r.size

pub in_ipdu : (t : List ℕ) (c : Counts) → ((k : ℕ) → k < c.ipdus → ipdu_right (ipdu_record t k) ≡ true) → (r : ObjectRecord)
    → ObjectFacts r (references t c r) → within_ipdu r (references t c r) ≡ true → InIpdu t c r
unfolding references
in_ipdu t c ipdus r facts within =
    let x = references t c r in
    let parts = and_split (eqb x.direction r.kind) (room (order_of r.order) r.start r.size x.length) within in
    let same : x.direction ≡ r.kind = eqb-true _ _ parts.0 in
    let exists : ltb r.ipdu c.ipdus ≡ true = picked _ _ r.kind (kind_some r facts.kinds) same in
    let number : r.ipdu < c.ipdus = ltb-true _ _ exists in
    let short : x.length ≤ 8 = rw exists (ipdu_facts (ipdu_record t r.ipdu) (ipdus r.ipdu number)).most in
    let bytes = byte_facts r facts.bytes in
    let along =
    run (order_of r.order) r.start r.size bytes.least
    (room_slot (order_of r.order) r.start r.size x.length short parts.1) in
    record {
      number = number;
      direction = rw exists at same;
      room = rw exists at parts.1;
      start = along.begins;
      slot = record { some = bytes.least; most = bytes.most; inside = along.ends };
    }
