-- Bytes 8 to 15 of an object's row as one word, under the two masks of the code: what each comparison says of `object_in_range`.
-- Assumes nothing.
use Rattle.std.proofs.Common.{Bool, true, false, ◌&&◌, List, ⊎_elim, ◌≡◌, refl, sym, ◌∙◌, ℕ, ◌+◌, ◌-◌, ◌*◌, ◌/◌, ◌%◌, ◌≤◌, ◌<◌, arith, eq-eqb, le-leb, bit_and, leb}
use lib.Bits.{and_zero_r, and_mask, and_high}
use Rattle.memory.specs.Bytes.{Bytes, number_at}
use Rattle.memory.proofs.Joined.{number_split, masked_byte}
use Rattle.memory.proofs.Parts.{number_lt}
use Rattle.memory.proofs.Tests.{never_true, lt_or_le}
use Rattle.table.specs.declared.ObjectRecord.{ObjectRecord}
use Rattle.state.specs.Layout.{object_row, object_state}
use Rattle.state.specs.Ranges.{object_in_range}
use Rattle.state.proofs.RowLaws.{object_fits}
use Rattle.state.proofs.Ready.{object_kept, kept_object}
use Rattle.ranges.specs.Inner.{queue_unit, used_in_range}

and_true : (a : Bool) → (a && true) ≡ a
and_true true = refl
and_true false = refl

-- ---- the word

abbrev joined : ℕ → ℕ → ℕ → ℕ → ℕ → ℕ → ℕ → ℕ
joined b₀ b₁ b₂ b₃ b₄ b₅ rest = b₀ + 256 * (b₁ + 256 * (b₂ + 256 * (b₃ + 256 * (b₄ + 256 * (b₅ + 256 * rest)))))

masked : (b₀ b₁ b₂ b₃ b₄ b₅ rest p₀ p₁ p₂ p₃ p₄ p₅ mask : ℕ) → b₀ < 256 → b₁ < 256 → b₂ < 256 → b₃ < 256 → b₄ < 256 → b₅ < 256
    → p₀ < 256 → p₁ < 256 → p₂ < 256 → p₃ < 256 → p₄ < 256 → p₅ < 256
    → bit_and (joined b₀ b₁ b₂ b₃ b₄ b₅ rest) (joined p₀ p₁ p₂ p₃ p₄ p₅ mask)
    ≡ joined (bit_and b₀ p₀) (bit_and b₁ p₁) (bit_and b₂ p₂) (bit_and b₃ p₃) (bit_and b₄ p₄) (bit_and b₅ p₅) (bit_and rest mask)
masked b₀ b₁ b₂ b₃ b₄ b₅ rest p₀ p₁ p₂ p₃ p₄ p₅ mask h₀ h₁ h₂ h₃ h₄ h₅ l₀ l₁ l₂ l₃ l₄ l₅ =
    rw (
      masked_byte b₀ (b₁ + 256 * (b₂ + 256 * (b₃ + 256 * (b₄ + 256 * (b₅ + 256 * rest))))) p₀ (p₁ + 256 * (p₂ + 256 * (p₃ + 256 * (p₄ + 256 * (p₅ + 256 * mask))))) h₀ l₀,
      masked_byte b₁ (b₂ + 256 * (b₃ + 256 * (b₄ + 256 * (b₅ + 256 * rest)))) p₁ (p₂ + 256 * (p₃ + 256 * (p₄ + 256 * (p₅ + 256 * mask)))) h₁ l₁,
      masked_byte b₂ (b₃ + 256 * (b₄ + 256 * (b₅ + 256 * rest))) p₂ (p₃ + 256 * (p₄ + 256 * (p₅ + 256 * mask))) h₂ l₂,
      masked_byte b₃ (b₄ + 256 * (b₅ + 256 * rest)) p₃ (p₄ + 256 * (p₅ + 256 * mask)) h₃ l₃,
      masked_byte b₄ (b₅ + 256 * rest) p₄ (p₅ + 256 * mask) h₄ l₄,
      masked_byte b₅ rest p₅ mask h₅ l₅,
    )

-- a byte under the four bytes that the masks have
all_bits : (b : ℕ) → b < 256 → bit_and b 255 ≡ b
all_bits b h = omega (arith, and_mask b 8)

upper_four : (b : ℕ) → b < 256 → bit_and b 240 ≡ 16 * (b / 16)
upper_four b h = omega (arith, and_high b 4 4)

upper_seven : (b : ℕ) → b < 256 → bit_and b 254 ≡ 2 * (b / 2)
upper_seven b h = omega (arith, and_high b 7 1)

all_sixteen : (b : ℕ) → b < 65536 → bit_and b 65535 ≡ b
all_sixteen b h = omega (arith, and_mask b 16)

-- a number below 2 ^ 48, and one above it
split_48 : (low high n : ℕ) → low < 281474976710656 → low + 281474976710656 * high ≡ 281474976710656 * n → (low ≡ 0) × (high ≡ n)
split_48 low high n few same = ⊎_elim (λ (h : high < n). absurd (omega arith)) (λ (h : n ≤ high). (omega arith, omega arith)) (lt_or_le high n)

module _ (m : List ℕ) (bs : Bytes m) (i : ℕ) {x : ℕ} (read : x ≡ number_at 8 (object_row i + 8) m) where
  byte : (k : ℕ) → number_at 1 (object_row i + k) m < 256
  byte k = number_lt 1 (object_row i + k) m bs

  queue_low : number_at 2 (object_row i + 14) m < 65536
  queue_low = number_lt 2 (object_row i + 14) m bs

  word : x ≡ joined (number_at 1 (object_row i + 8) m) (number_at 1 (object_row i + 9) m) (number_at 1 (object_row i + 10) m) (number_at 1 (object_row i + 11) m)
      (number_at 1 (object_row i + 12) m) (number_at 1 (object_row i + 13) m) (number_at 2 (object_row i + 14) m)
  word =
      omega (
        arith,
        read,
        number_split 1 7 (object_row i + 8) (object_row i + 9) m (omega arith),
        number_split 1 6 (object_row i + 9) (object_row i + 10) m (omega arith),
        number_split 1 5 (object_row i + 10) (object_row i + 11) m (omega arith),
        number_split 1 4 (object_row i + 11) (object_row i + 12) m (omega arith),
        number_split 1 3 (object_row i + 12) (object_row i + 13) m (omega arith),
        number_split 1 2 (object_row i + 13) (object_row i + 14) m (omega arith),
      )

  fixed : bit_and x 18446462598749548544
      ≡ 4096 * ((object_state m i).marks / 16) + 131072 * ((object_state m i).overflow / 2) + 281474976710656 * (object_state m i).queue
  unfolding object_state
  fixed =
      rw (
        word,
        masked _ _ _ _ _ _ _ 0 240 254 0 0 0 65535 (byte 8) (byte 9) (byte 10) (byte 11) (byte 12) (byte 13)
            (omega arith) (omega arith) (omega arith) (omega arith) (omega arith) (omega arith),
        and_zero_r (number_at 1 (object_row i + 8) m),
        and_zero_r (number_at 1 (object_row i + 11) m),
        and_zero_r (number_at 1 (object_row i + 12) m),
        and_zero_r (number_at 1 (object_row i + 13) m),
        upper_four _ (byte 9),
        upper_seven _ (byte 10),
        all_sixteen _ queue_low,
      )
      (omega arith)

  used : bit_and x 18446463698244399359
      ≡ (object_state m i).occurrence + 4096 * ((object_state m i).marks / 16) + 131072 * ((object_state m i).overflow / 2) + 16777216 * (object_state m i).head
      + 4294967296 * (object_state m i).count + 281474976710656 * (object_state m i).queue
  unfolding object_state
  used =
      rw (
        word,
        masked _ _ _ _ _ _ _ 255 240 254 255 255 0 65535 (byte 8) (byte 9) (byte 10) (byte 11) (byte 12) (byte 13)
            (omega arith) (omega arith) (omega arith) (omega arith) (omega arith) (omega arith),
        and_zero_r (number_at 1 (object_row i + 13) m),
        all_bits _ (byte 8),
        upper_four _ (byte 9),
        upper_seven _ (byte 10),
        all_bits _ (byte 11),
        all_bits _ (byte 12),
        all_sixteen _ queue_low,
      )
      (omega arith)

  module _ (r : ObjectRecord) {q : ℕ} (units : q % queue_unit ≡ 0) where
    same : q ≡ queue_unit * (q / queue_unit)
    same = omega arith

    -- nothing queued, at the queue's first place, and an occurrence of 0
    pub empty_in_range : bit_and x 18446463698244399359 ≡ q → true ≡ object_in_range r (q / queue_unit) (object_state m i)
    unfolding object_state
    empty_in_range e =
        let halves =
        split_48
        (number_at 1 (object_row i + 8) m + 4096 * (number_at 1 (object_row i + 9) m / 16) + 131072 * (number_at 1 (object_row i + 10) m / 2)
        + 16777216 * number_at 1 (object_row i + 11) m + 4294967296 * number_at 1 (object_row i + 12) m)
        (number_at 2 (object_row i + 14) m) (q / queue_unit) (omega (arith, byte 8, byte 9, byte 10, byte 11, byte 12)) (sym used ∙ e ∙ same) in
        let fits = object_fits m i bs in
        sym
        (kept_object r (q / queue_unit) (object_state m i)
        (record {
          value = fits.value;
          old = fits.old;
          occurrence = omega (arith, halves.0);
          marks = omega (arith, halves.0);
          overflow = omega (arith, halves.0);
          count = omega (arith, halves.0);
          head = omega (arith, halves.0);
          queue = halves.1;
        }))

    -- marks, overflow and queue, which are as they must be or not whatever the depth and the filter
    pub fixed_out : (bit_and x 18446462598749548544 ≡ q → ⊥) → false ≡ object_in_range r (q / queue_unit) (object_state m i)
    fixed_out other =
        never_true (object_in_range r (q / queue_unit) (object_state m i)) (λ e.
        let kept = object_kept r (q / queue_unit) (object_state m i) (object_fits m i bs) e in
        other (omega (arith, same, fixed, kept.marks, kept.overflow, kept.queue)))

    pub used_decides : {b : Bool} → bit_and x 18446462598749548544 ≡ q → b ≡ used_in_range r (object_state m i)
        → b ≡ object_in_range r (q / queue_unit) (object_state m i)
    unfolding object_in_range object_state
    used_decides fits e =
        let halves =
        split_48 (4096 * (number_at 1 (object_row i + 9) m / 16) + 131072 * (number_at 1 (object_row i + 10) m / 2)) (number_at 2 (object_row i + 14) m) (q / queue_unit)
        (omega (arith, byte 9, byte 10)) (sym fixed ∙ fits ∙ same) in
        let marks : number_at 1 (object_row i + 9) m ≤ 15 = omega (arith, halves.0) in
        let overflow : number_at 1 (object_row i + 10) m ≤ 1 = omega (arith, halves.0) in
        rw (
          le-leb (number_at 1 (object_row i + 9) m) 15 marks,
          le-leb (number_at 1 (object_row i + 10) m) 1 overflow,
          eq-eqb (number_at 2 (object_row i + 14) m) (q / queue_unit) halves.1,
          and_true (leb (number_at 1 (object_row i + 12) m) r.depth && leb (number_at 1 (object_row i + 11) m) (r.depth - 1)),
        ) e
