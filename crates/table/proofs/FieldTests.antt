-- The tests of an object record's filter, place, transfer property and depth, in the order of the code: what each says of the fields. x, y and z are numbers that were read.
-- Assumes nothing.
use Rattle.std.proofs.Common.{Bool, true, false, ◌&&◌, ◌||◌, ⊎_elim, ◌≡◌, refl, sym, ◌∙◌, ℕ, ◌+◌, ◌-◌, ◌*◌, ◌/◌, ◌%◌, ◌^◌, ◌≤◌, ◌<◌, arith, eq-eqb, ne_eqb, le-leb, lt-ltb, le-ltb, leb, ltb, eqb}
use borrow.Author.Tests.{lt-leb}
use Rattle.memory.specs.Search.{pick}
use Rattle.memory.proofs.Tests.{and_false, lt_or_le, eq_or_ne}
use Rattle.bits.specs.declared.Order.TheVariants.{Big}
use Rattle.bits.specs.Bits.{room}
use Rattle.bits.specs.Slots.{position}
use Rattle.bits.proofs.Places.{position_lt}
use Rattle.filter.specs.Filters.{filter_right}
use Rattle.filter.proofs.Laws.{no_constants}
use Rattle.table.specs.declared.ObjectRecord.{ObjectRecord}
use Rattle.table.specs.Records.{sending, absent}
use Rattle.table.specs.Inner.{filter_field, place_field, transfer_and_depth}

-- ---- the sender

pub no_sender : {x : ℕ} → x ≡ absent → (b : Bool) → true ≡ (eqb x absent || b)
no_sender e b = rw (eq-eqb _ absent e)

pub sender_past : {x n : ℕ} → (x ≡ absent → ⊥) → n ≤ x → (y : ℕ) → false ≡ (eqb x absent || eqb (pick (ltb x n) y 0) sending)
sender_past {x} {n} some past y = rw (ne_eqb x absent some, le-ltb x n past)

pub sender_kind : {x n y k : ℕ} → (x ≡ absent → ⊥) → x < n → k ≡ y → eqb k sending ≡ (eqb x absent || eqb (pick (ltb x n) y 0) sending)
sender_kind {x} {n} some below same = rw (ne_eqb x absent some, lt-ltb x n below, same)

-- ---- the filter

module _ (r : ObjectRecord) {x : ℕ} (number : x ≡ r.filter + 256 * r.zero_9 + 65536 * r.zero_10) where
  -- a number with a byte above it is no filter's
  wide : filter_right x r.first r.second ≡ filter_field r
  unfolding filter_field filter_right
  wide =
      ⊎_elim
      (λ (h : x < 256).
      let first : r.zero_9 ≡ 0 = omega arith in
      let second : r.zero_10 ≡ 0 = omega arith in
      let same : x ≡ r.filter = omega arith in
      rw (same, first, second))
      (λ (h : 256 ≤ x).
      ⊎_elim
      (λ (none : r.zero_9 ≡ 0).
      ⊎_elim
      (λ (neither : r.zero_10 ≡ 0). rw (lt-leb x 14 (omega arith), lt-leb r.filter 14 (omega arith), none, neither))
      (λ (some : r.zero_10 ≡ 0 → ⊥). rw (lt-leb x 14 (omega arith), ne_eqb r.zero_10 0 some, none))
      (eq_or_ne r.zero_10 0))
      (λ (some : r.zero_9 ≡ 0 → ⊥). rw (lt-leb x 14 (omega arith), ne_eqb r.zero_9 0 some))
      (eq_or_ne r.zero_9 0))
      (lt_or_le x 256)

  pub no_constant : {y : ℕ} → y ≡ r.first + 4294967296 * r.second → y ≡ 0 → leb x 13 ≡ filter_field r
  no_constant e zero =
      let first : r.first ≡ 0 = omega arith in
      let second : r.second ≡ 0 = omega arith in
      rw (← wide, first, second) (no_constants x)

  pub constants_decide : {b : Bool} {y z : ℕ} → y ≡ r.first → z ≡ r.second → b ≡ filter_right x y z → b ≡ filter_field r
  constants_decide first second e = rw (first, second) at e ∙ wide

-- ---- the place

module _ (r : ObjectRecord) (n : ℕ) {x : ℕ} (size : x ≡ r.size) where
  pub no_size : x < 1 → false ≡ place_field r n
  unfolding place_field
  no_size h = rw (lt-leb 1 r.size (omega arith))

  pub size_past : 32 < x → false ≡ place_field r n
  unfolding place_field
  size_past h = rw (le-leb 1 r.size (omega arith), lt-leb r.size 32 (omega arith))

  module _ (least : 1 ≤ x) (most : x ≤ 32) {y : ℕ} (order : y ≡ r.order) where
    pub no_order : 3 < y → false ≡ place_field r n
    unfolding place_field
    no_order past = rw (le-leb 1 r.size (omega arith), le-leb r.size 32 (omega arith), lt-leb r.order 3 (omega arith))

    module _ (known : y ≤ 3) {z : ℕ} (start : z ≡ r.start) where
      pub little_room : y % 2 ≡ 0 → leb (z + x) (8 * n) ≡ place_field r n
      unfolding place_field room
      little_room even =
          let little : eqb (r.order % 2) 0 ≡ true = eq-eqb (r.order % 2) 0 (rw order at even) in
          rw (le-leb 1 r.size (omega arith), le-leb r.size 32 (omega arith), le-leb r.order 3 (omega arith), little, start, size)

      module _ (odd : y % 2 ≡ 0 → ⊥) where
        big : eqb (r.order % 2) 0 ≡ false
        big = ne_eqb (r.order % 2) 0 (λ e. odd (rw order e))

        pub outside : 8 * n ≤ z → false ≡ place_field r n
        unfolding place_field room
        outside past =
            rw (
              le-leb 1 r.size (omega arith),
              le-leb r.size 32 (omega arith),
              le-leb r.order 3 (omega arith),
              big,
              le-ltb r.start (8 * n) (omega arith),
            )

        pub big_room : {p : ℕ} → n ≤ 8 → z < 8 * n → p ≡ position Big z → leb (p + x) 64 ≡ place_field r n
        unfolding place_field room position
        big_room {p} few inside at =
            let same : leb (p + x) 64 ≡ leb r.size (8 * (r.start / 8 + 1) - r.start % 8) =
            ⊎_elim
            (λ (h : 64 < p + x). lt-leb (p + x) 64 h ∙ sym (lt-leb r.size (8 * (r.start / 8 + 1) - r.start % 8) (omega (arith, at, inside, few, h))))
            (λ (h : p + x ≤ 64). le-leb (p + x) 64 h ∙ sym (le-leb r.size (8 * (r.start / 8 + 1) - r.start % 8) (omega (arith, at, inside, few, h))))
            (lt_or_le 64 (p + x)) in
            rw (
              le-leb 1 r.size (omega arith),
              le-leb r.size 32 (omega arith),
              le-leb r.order 3 (omega arith),
              big,
              lt-ltb r.start (8 * n) (omega arith),
            ) same

pub position_fits : {p x z n : ℕ} → p ≡ position Big z → z < 8 * n → n ≤ 8 → x ≤ 32 → p + x < 2 ^ 32
position_fits {z = z} at inside short few = omega (arith, position_lt Big z (omega arith))

-- ---- transfer property and depth

module _ (r : ObjectRecord) {x : ℕ} (both : x ≡ r.transfer + 256 * r.depth) {k : ℕ} where
  pub neither : 1 ≤ k → k ≤ 2 → x ≡ 0 → true ≡ transfer_and_depth r k
  unfolding transfer_and_depth
  neither least most zero =
      let transfer : r.transfer ≡ 0 = omega arith in
      let depth : r.depth ≡ 0 = omega arith in
      rw (transfer, depth) (either (eqb k sending))
    where
      either : (b : Bool) → true ≡ pick b (leb 0 1 && eqb 0 0) (eqb 0 0 && leb 0 16)
      either true = refl
      either false = refl

  pub sent_transfer : k ≡ sending → leb x 1 ≡ transfer_and_depth r k
  unfolding transfer_and_depth
  sent_transfer one =
      ⊎_elim
      (λ (h : 1 < x).
      ⊎_elim
      (λ (none : r.depth ≡ 0). rw (one, lt-leb x 1 h, lt-leb r.transfer 1 (omega arith)))
      (λ (some : r.depth ≡ 0 → ⊥). rw (one, lt-leb x 1 h, ne_eqb r.depth 0 some, and_false (leb r.transfer 1)))
      (eq_or_ne r.depth 0))
      (λ (h : x ≤ 1). rw (one, le-leb x 1 h, le-leb r.transfer 1 (omega arith), eq-eqb r.depth 0 (omega arith)))
      (lt_or_le 1 x)

pub received_transfer : (r : ObjectRecord) {k y z : ℕ} → (k ≡ sending → ⊥) → y ≡ r.transfer → z ≡ r.depth → (eqb y 0 && leb z 16) ≡ transfer_and_depth r k
unfolding transfer_and_depth
received_transfer r {k} other transfer depth = rw (ne_eqb k sending other, transfer, depth)
