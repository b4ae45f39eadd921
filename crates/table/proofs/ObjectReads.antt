-- Numbers of an object record that are read together, as the numbers of its fields.
-- Assumes nothing.
use Rattle.std.proofs.Common.{List, ◌≡◌, ℕ, ◌+◌, ◌*◌, arith}
use Rattle.memory.specs.Bytes.{number_at}
use Rattle.memory.proofs.Joined.{number_split}
use Rattle.table.specs.Records.{object_record_at}

module _ {x : ℕ} (a : ℕ) (t : List ℕ) where
  -- the filter's number, with the bytes above it
  pub filter_read : x ≡ number_at 4 (a + 8) t
      → x ≡ (object_record_at a t).filter + 256 * (object_record_at a t).zero_9 + 65536 * (object_record_at a t).zero_10
  filter_read e = omega (arith, number_split 1 3 (a + 8) (a + 9) t (omega arith), number_split 1 2 (a + 9) (a + 10) t (omega arith))

  pub constants_read : x ≡ number_at 8 (a + 16) t → x ≡ (object_record_at a t).first + 4294967296 * (object_record_at a t).second
  constants_read e = omega (arith, number_split 4 4 (a + 16) (a + 20) t (omega arith))

  pub transfer_read : x ≡ number_at 2 (a + 6) t → x ≡ (object_record_at a t).transfer + 256 * (object_record_at a t).depth
  transfer_read e = omega (arith, number_split 1 1 (a + 6) (a + 7) t (omega arith))
