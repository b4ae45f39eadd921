-- The tests of an object record, in the order of the code: what each says of `object_right`. x, y and z are numbers that were read.
-- Assumes nothing.
use borrow.Author.Tests.{not-true, not-false}
use Rattle.std.proofs.Common.{Bool, true, false, not, ◌&&◌, ◌||◌, List, [], ◌∷◌, ◌⊎◌, inl, inr, ⊎_elim, ◌≡◌, refl, sym, ◌∙◌, ℕ, ◌≤◌, ◌<◌, arith, eqb-true, leb-true, eq-eqb, ne_eqb}
use Rattle.std.proofs.Common.{le-leb, lt-ltb, le-ltb, leb, ltb, eqb}
use Rattle.memory.specs.Search.{pick}
use Rattle.memory.proofs.Tests.{and_split, each_true, or_cases, true_or_false, true_not_false, tested_true, tested_false, never_true}
use Rattle.bits.specs.Bits.{room}
use Rattle.filter.specs.Filters.{filter_right}
use Rattle.table.specs.declared.Counts.{Counts}
use Rattle.table.specs.declared.ObjectRecord.{ObjectRecord}
use Rattle.table.specs.declared.References.{References}
use Rattle.table.specs.Records.{sending, receiving, absent, ipdu_record, object_record}
use Rattle.table.specs.Rules.{order_of, references, send_object, receive_object, without_ipdu, within_ipdu, sender_right, object_right}
use Rattle.table.specs.Check.{Shape}
use Rattle.table.specs.Inner.{Filtered, IpdusRight, filter_field, place_field, transfer_and_depth}
use Rattle.table.proofs.Facts.{object_facts, ByteFacts, byte_facts, Sent, Received, kind_facts, ipdu_facts, direction_known, or_right}

-- ---- what the fields say

filters : (r : ObjectRecord) → filter_field r ≡ true
    → (r.zero_9 ≡ 0) × (r.zero_10 ≡ 0) × (filter_right r.filter r.first r.second ≡ true)
unfolding filter_field
filters r e =
    let rest = and_split (eqb r.zero_9 0 && eqb r.zero_10 0) (filter_right r.filter r.first r.second) e in
    let zeros = and_split (eqb r.zero_9 0) (eqb r.zero_10 0) rest.0 in
    (eqb-true _ _ zeros.0, eqb-true _ _ zeros.1, rest.1)

record PlaceFacts (r : ObjectRecord) (n : ℕ) : Type 0 where
  least : 1 ≤ r.size
  most : r.size ≤ 32
  orders : r.order ≤ 3
  rooms : room (order_of r.order) r.start r.size n ≡ true

places : (r : ObjectRecord) (n : ℕ) → place_field r n ≡ true → PlaceFacts r n
unfolding place_field
places r n e =
    let all =
    each_true (leb 1 r.size) (leb r.size 32 ∷ leb r.order 3 ∷ room (order_of r.order) r.start r.size n ∷ []) e in
    search leb-true

sent : (r : ObjectRecord) → transfer_and_depth r sending ≡ true → (r.transfer ≤ 1) × (r.depth ≡ 0)
unfolding transfer_and_depth
sent r e = let both = and_split (leb r.transfer 1) (eqb r.depth 0) e in (leb-true _ _ both.0, eqb-true _ _ both.1)

received : (r : ObjectRecord) → transfer_and_depth r receiving ≡ true → (r.transfer ≡ 0) × (r.depth ≤ 16)
unfolding transfer_and_depth
received r e = let both = and_split (eqb r.transfer 0) (leb r.depth 16) e in (eqb-true _ _ both.0, leb-true _ _ both.1)

-- two tests that are made as `(y != a) & (y != b)`
neither : (a b : Bool) → (not a && not b) ≡ true → (a || b) ≡ false
neither true b e = let z : false ≡ true = e in absurd (true_not_false z refl)
neither false b e = not-true b e

either : (a b : Bool) → (not a && not b) ≡ false → (a || b) ≡ true
either true b e = refl
either false b e = not-false b e

whole_limit : (n : ℕ) → (eqb n 0 || eqb n 2) ≡ true → n ≤ 3
whole_limit n e = ⊎_elim (λ h. omega (arith, eqb-true n 0 h)) (λ h. omega (arith, eqb-true n 2 h)) (or_cases (eqb n 0) (eqb n 2) e)

-- it lies outside any I-PDU
record Outside (r : ObjectRecord) : Type 0 where
  ipdu : r.ipdu ≡ absent
  start : r.start ≡ 0
  size : r.size ≡ 32
  order : (eqb r.order 0 || eqb r.order 2) ≡ true

module _ (r : ObjectRecord) (x : References) where
  refused : (object_right r x ≡ true → ⊥) → false ≡ object_right r x
  refused = never_true (object_right r x)

  bytes : object_right r x ≡ true → ByteFacts r
  bytes f = byte_facts r (object_facts r x f).bytes

  right : Filtered r → 1 ≤ r.size → r.size ≤ 32 → r.order ≤ 3 → r.transfer ≤ 1 → r.depth ≤ 16
      → (send_object r || receive_object r) ≡ true → (without_ipdu r || within_ipdu r x) ≡ true → sender_right r x ≡ true → true ≡ object_right r x
  unfolding object_right
  right f least most order transfer depth kind place sender =
      let field = filters r f.field in
      rw (
        le-leb 1 r.size least,
        le-leb r.size 32 most,
        le-leb r.order 3 order,
        le-leb r.transfer 1 transfer,
        le-leb r.depth 16 depth,
        eq-eqb r.zero_9 0 field.0,
        eq-eqb r.zero_10 0 field.1,
        eq-eqb r.zero_24 0 f.tail,
        kind,
        place,
        sender,
        field.2,
      )

  pub tail_some : {y : ℕ} → y ≡ r.zero_24 → (y ≡ 0 → ⊥) → false ≡ object_right r x
  tail_some e some = refused (λ f. some (e ∙ (bytes f).tail))

  pub filter_wrong : {b : Bool} → b ≡ filter_field r → b ≡ false → false ≡ object_right r x
  unfolding filter_field
  filter_wrong e wrong =
      refused (λ f.
      let all : filter_field r ≡ true =
      rw (eq-eqb r.zero_9 0 (bytes f).above_filter, eq-eqb r.zero_10 0 (bytes f).above_that) (object_facts r x f).filters in
      true_not_false all (tested_false e wrong))

  -- a right object uses what its kind may
  transfer_as_kind : {z : ℕ} → r.kind ≡ z → object_right r x ≡ true → transfer_and_depth r z ≡ true
  unfolding transfer_and_depth
  transfer_as_kind same f =
      let fields = bytes f in
      ⊎_elim
      (λ (s : Sent r).
      let one : _ ≡ sending = sym same ∙ s.kind in
      rw (one, le-leb r.transfer 1 fields.transfers, eq-eqb r.depth 0 s.depth))
      (λ (s : Received r).
      let two : _ ≡ receiving = sym same ∙ s.kind in
      rw (two, eq-eqb r.transfer 0 s.transfer, le-leb r.depth 16 fields.depths))
      (kind_facts r x f)

-- what the two functions behind ask for
pub filtered : (r : ObjectRecord) {b : Bool} {y : ℕ} → y ≡ r.zero_24 → y ≡ 0 → b ≡ filter_field r → b ≡ true → Filtered r
filtered r tail zero e done = record { tail = sym tail ∙ zero; field = tested_true e done }

-- ---- in I-PDU k

-- the length of an I-PDU, and its direction, 1 or 2
module _ (t : List ℕ) (c : Counts) (ipdus : IpdusRight t c) {k : ℕ} (low : k < c.ipdus) {y : ℕ} where
  pub short : y ≡ (ipdu_record t k).length → y ≤ 8
  short e = rw e (ipdu_facts (ipdu_record t k) (ipdus.each k low)).most

  module _ {z : ℕ} (e : y ≡ (ipdu_record t k).direction) (same : y ≡ z) where
    kind_known : (z ≡ sending) ⊎ (z ≡ receiving)
    kind_known = ⊎_elim (λ one. inl (sym same ∙ e ∙ one)) (λ two. inr (sym same ∙ e ∙ two)) (direction_known (ipdu_record t k) (ipdus.each k low))

    pub kind_least : 1 ≤ z
    kind_least = ⊎_elim (λ (one : z ≡ sending). omega arith) (λ (two : z ≡ receiving). omega arith) kind_known

    pub kind_most : z ≤ 2
    kind_most = ⊎_elim (λ (one : z ≡ sending). omega arith) (λ (two : z ≡ receiving). omega arith) kind_known

module _ (t : List ℕ) (c : Counts) (r : ObjectRecord) (shape : Shape t c) (ipdus : IpdusRight t c) {k : ℕ} (own : k ≡ r.ipdu) (low : k < c.ipdus) where
  here : eqb r.ipdu absent ≡ false
  here = ne_eqb r.ipdu absent (omega (arith, shape.ipdus))

  exists : ltb r.ipdu c.ipdus ≡ true
  exists = lt-ltb r.ipdu c.ipdus (omega arith)

  inside : object_right r (references t c r) ≡ true
      → ((ipdu_record t k).direction ≡ r.kind) × (room (order_of r.order) r.start r.size (ipdu_record t k).length ≡ true)
  unfolding references
  inside f =
      let away : without_ipdu r ≡ false = rw here in
      let both =
      and_split (eqb (ipdu_record t k).direction r.kind) (room (order_of r.order) r.start r.size (ipdu_record t k).length)
      (rw (exists, ← own) at (or_right (without_ipdu r) (within_ipdu r (references t c r)) away (object_facts r (references t c r) f).places)) in
      (eqb-true _ _ both.0, both.1)

  pub other_direction : {y z : ℕ} → y ≡ (ipdu_record t k).direction → z ≡ r.kind → (y ≡ z → ⊥) → false ≡ object_right r (references t c r)
  other_direction e same differ =
      refused r (references t c r) (λ f. differ (e ∙ (inside f).0 ∙ sym same))

  pub two_ways : {y : ℕ} → y ≡ r.sender → (y ≡ absent → ⊥) → false ≡ object_right r (references t c r)
  two_ways e some =
      refused r (references t c r) (λ f.
      ⊎_elim
      (λ (s : Sent r). some (e ∙ s.sender))
      (λ (s : Received r). some (e ∙ eqb-true _ _ (or_right (eqb r.ipdu absent) (eqb r.sender absent) here s.one)))
      (kind_facts r (references t c r) f))

  pub no_room : {b : Bool} {y : ℕ} → y ≡ (ipdu_record t k).length → b ≡ place_field r y → b ≡ false → false ≡ object_right r (references t c r)
  unfolding place_field
  no_room {b} {y} length e wrong =
      refused r (references t c r) (λ f.
      let fields = bytes r (references t c r) f in
      let all : place_field r y ≡ true =
      rw (le-leb 1 r.size fields.least, le-leb r.size 32 fields.most, le-leb r.order 3 fields.orders, length) (inside f).1 in
      true_not_false all (tested_false e wrong))

  module _ (f : Filtered r) {d z : ℕ} (direction : d ≡ (ipdu_record t k).direction) (kind : z ≡ r.kind) (same : d ≡ z)
      {s : ℕ} (sender : s ≡ r.sender) (none : s ≡ absent)
      {b : Bool} {y : ℕ} (length : y ≡ (ipdu_record t k).length) (place : b ≡ place_field r y) (placed : b ≡ true) where
    placing : PlaceFacts r y
    placing = places r y (tested_true place placed)

    accepted : r.transfer ≤ 1 → r.depth ≤ 16 → (send_object r || receive_object r) ≡ true → true ≡ object_right r (references t c r)
    unfolding references
    accepted transfer depth kinds =
        right r (references t c r) f placing.least placing.most placing.orders transfer depth kinds
        (rw (here, exists, ← own, eq-eqb (ipdu_record t k).direction r.kind (omega arith), ← length) placing.rooms)
        (rw (eq-eqb r.sender absent (omega arith)))

    pub within_transfer : {u : Bool} → u ≡ transfer_and_depth r z → u ≡ object_right r (references t c r)
    within_transfer {u} e =
        ⊎_elim
        (λ (yes : u ≡ true).
        ⊎_elim
        (λ (one : z ≡ sending).
        let fit = sent r (rw (← one) (sym e ∙ yes)) in
        rw yes
        (accepted fit.0 (omega (arith, fit.1))
        (rw (eq-eqb r.kind sending (omega arith), eq-eqb r.sender absent (omega arith), eq-eqb r.depth 0 fit.1))))
        (λ (two : z ≡ receiving).
        let fit = received r (rw (← two) (sym e ∙ yes)) in
        rw yes
        (accepted (omega (arith, fit.0)) fit.1
        (rw (ne_eqb r.kind sending (omega arith), eq-eqb r.kind receiving (omega arith), here, eq-eqb r.sender absent (omega arith), eq-eqb r.transfer 0 fit.0))))
        (kind_known t c ipdus low direction same))
        (λ (wrong : u ≡ false). rw wrong (refused r (references t c r) (λ g. true_not_false (transfer_as_kind r (references t c r) (sym kind) g) (sym e ∙ wrong))))
        (true_or_false u)

-- ---- outside any I-PDU

module _ (t : List ℕ) (c : Counts) (r : ObjectRecord) (high : c.ipdus ≤ r.ipdu) where
  outside : object_right r (references t c r) ≡ true → Outside r
  unfolding references
  outside f =
      let facts = object_facts r (references t c r) f in
      ⊎_elim
      (λ e.
      let all = each_true (eqb r.ipdu absent) (eqb r.start 0 ∷ eqb r.size 32 ∷ (eqb r.order 0 || eqb r.order 2) ∷ []) e in
      search eqb-true)
      (λ e.
      let none : eqb 0 r.kind ≡ true = (and_split (eqb 0 r.kind) _ (rw (le-ltb r.ipdu c.ipdus high) at e)).0 in
      let kind = eqb-true 0 r.kind none in
      absurd (⊎_elim (λ (s : Sent r). omega (arith, s.kind)) (λ (s : Received r). omega (arith, s.kind)) (kind_facts r (references t c r) f)))
      (or_cases (without_ipdu r) (within_ipdu r (references t c r)) facts.places)

  pub another_ipdu : {y : ℕ} → y ≡ r.ipdu → (y ≡ absent → ⊥) → false ≡ object_right r (references t c r)
  another_ipdu e some = refused r (references t c r) (λ f. some (e ∙ (outside f).ipdu))

  pub start_some : {y : ℕ} → y ≡ r.start → (y ≡ 0 → ⊥) → false ≡ object_right r (references t c r)
  start_some e some = refused r (references t c r) (λ f. some (e ∙ (outside f).start))

  pub not_whole : {y : ℕ} → y ≡ r.size → (y ≡ 32 → ⊥) → false ≡ object_right r (references t c r)
  not_whole e other = refused r (references t c r) (λ f. other (e ∙ (outside f).size))

  pub not_little : {y : ℕ} → y ≡ r.order → (not (eqb y 0) && not (eqb y 2)) ≡ true → false ≡ object_right r (references t c r)
  not_little {y} e other =
      refused r (references t c r) (λ f. true_not_false (rw e (outside f).order) (neither (eqb y 0) (eqb y 2) other))

  module _ {k : ℕ} (kind : k ≡ r.kind) where
    pub sent_from_sender : {y : ℕ} → k ≡ sending → y ≡ r.sender → (y ≡ absent → ⊥) → false ≡ object_right r (references t c r)
    sent_from_sender one e some =
        refused r (references t c r) (λ f.
        ⊎_elim (λ (s : Sent r). some (e ∙ s.sender)) (λ (s : Received r). omega (arith, s.kind)) (kind_facts r (references t c r) f))

    pub no_kind : (k ≡ sending → ⊥) → (k ≡ receiving → ⊥) → false ≡ object_right r (references t c r)
    no_kind not-sent not-received =
        refused r (references t c r) (λ f.
        ⊎_elim (λ (s : Sent r). not-sent (kind ∙ s.kind)) (λ (s : Received r). not-received (kind ∙ s.kind)) (kind_facts r (references t c r) f))

    pub transfer_wrong : {u : Bool} → u ≡ transfer_and_depth r k → u ≡ false → false ≡ object_right r (references t c r)
    transfer_wrong e wrong = refused r (references t c r) (λ f. true_not_false (transfer_as_kind r (references t c r) (sym kind) f) (tested_false e wrong))

    module _ (f : Filtered r) {i : ℕ} (ipdu : i ≡ r.ipdu) (none : i ≡ absent) {b : ℕ} (start : b ≡ r.start) (zero : b ≡ 0)
        {x : ℕ} (size : x ≡ r.size) (whole : x ≡ 32) {y : ℕ} (order : y ≡ r.order) (little : (not (eqb y 0) && not (eqb y 2)) ≡ false)
        {s : ℕ} (sender : s ≡ r.sender) where
      accepted_outside : r.transfer ≤ 1 → r.depth ≤ 16 → (send_object r || receive_object r) ≡ true → sender_right r (references t c r) ≡ true
          → true ≡ object_right r (references t c r)
      accepted_outside transfer depth kinds from =
          let known : (eqb r.order 0 || eqb r.order 2) ≡ true = rw order at (either (eqb y 0) (eqb y 2) little) in
          right r (references t c r) f (omega arith) (omega arith) (whole_limit r.order known) transfer depth kinds
          (rw (eq-eqb r.ipdu absent (omega arith), eq-eqb r.start 0 (omega arith), eq-eqb r.size 32 (omega arith), known)) from

      pub sent_outside : {u : Bool} → k ≡ sending → s ≡ absent → u ≡ transfer_and_depth r k → u ≡ object_right r (references t c r)
      sent_outside {u} one alone e =
          ⊎_elim
          (λ (yes : u ≡ true).
          let fit = sent r (rw (← one) (sym e ∙ yes)) in
          rw yes
          (accepted_outside fit.0 (omega (arith, fit.1))
          (rw (eq-eqb r.kind sending (omega arith), eq-eqb r.sender absent (omega arith), eq-eqb r.depth 0 fit.1))
          (rw (eq-eqb r.sender absent (omega arith)))))
          (λ (wrong : u ≡ false).
          rw wrong (refused r (references t c r) (λ g. true_not_false (transfer_as_kind r (references t c r) (sym kind) g) (sym e ∙ wrong))))
          (true_or_false u)

      pub sender_decides : {u v : Bool} → (k ≡ sending → ⊥) → k ≡ receiving → u ≡ transfer_and_depth r k → u ≡ true
          → v ≡ (eqb s absent || eqb (pick (ltb s c.objects) (object_record t c.ipdus s).kind 0) sending)
          → v ≡ object_right r (references t c r)
      unfolding references
      sender_decides {u} {v} other two e fits from =
          let fit = received r (rw (← two) (tested_true e fits)) in
          let same : v ≡ sender_right r (references t c r) = rw sender at from in
          ⊎_elim
          (λ (yes : v ≡ true).
          rw yes
          (accepted_outside (omega (arith, fit.0)) fit.1
          (rw (ne_eqb r.kind sending (omega arith), eq-eqb r.kind receiving (omega arith), eq-eqb r.transfer 0 fit.0, eq-eqb r.ipdu absent (omega arith)))
          (sym same ∙ yes)))
          (λ (wrong : v ≡ false).
          rw wrong (refused r (references t c r) (λ g. true_not_false (object_facts r (references t c r) g).senders (sym same ∙ wrong))))
          (true_or_false v)
