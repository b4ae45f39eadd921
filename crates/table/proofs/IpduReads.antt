-- Numbers of an I-PDU record that are read together, as the numbers of its fields.
-- Assumes nothing.
use Rattle.std.proofs.Common.{List, ◌≡◌, ℕ, ◌+◌, ◌*◌, arith}
use Rattle.memory.specs.Bytes.{number_at}
use Rattle.memory.proofs.Joined.{number_split}
use Rattle.table.specs.Records.{ipdu_base, ipdu_record_at, ipdu_record}

module _ {x : ℕ} (a : ℕ) (t : List ℕ) where
  pub mode_read : x ≡ number_at 2 (a + 2) t → x ≡ (ipdu_record_at a t).mode + 256 * (ipdu_record_at a t).zero_3
  mode_read e = omega (arith, number_split 1 1 (a + 2) (a + 3) t (omega arith))

  pub times_read : x ≡ number_at 4 (a + 4) t → x ≡ (ipdu_record_at a t).period + 65536 * (ipdu_record_at a t).offset
  times_read e = omega (arith, number_split 2 2 (a + 4) (a + 6) t (omega arith))

  -- all that a receive I-PDU has not
  pub word_read : x ≡ number_at 8 (a + 2) t
      → x ≡ (ipdu_record_at a t).mode + 256 * (ipdu_record_at a t).zero_3 + 65536 * (ipdu_record_at a t).period + 4294967296 * (ipdu_record_at a t).offset
      + 281474976710656 * (ipdu_record_at a t).minimum_delay
  word_read e =
      omega (
        arith,
        number_split 1 7 (a + 2) (a + 3) t (omega arith),
        number_split 1 6 (a + 3) (a + 4) t (omega arith),
        number_split 2 4 (a + 4) (a + 6) t (omega arith),
        number_split 2 2 (a + 6) (a + 8) t (omega arith),
      )

-- the direction and the length of an I-PDU by its number
pub direction_read : {x : ℕ} (k : ℕ) (t : List ℕ) → x ≡ number_at 1 (ipdu_base + 16 * k) t → x ≡ (ipdu_record t k).direction
unfolding ipdu_record
direction_read k t e = e

pub length_read : {x : ℕ} (k : ℕ) (t : List ℕ) → x ≡ number_at 1 (ipdu_base + 16 * k + 1) t → x ≡ (ipdu_record t k).length
unfolding ipdu_record
length_read k t e = e
