-- Numbers of a row or a record that are read by themselves or together, as the numbers of its fields.
-- Assumes nothing.
use Rattle.std.proofs.Common.{List, ◌≡◌, ℕ, ◌+◌, ◌*◌, add-zero, arith}
use Rattle.memory.specs.Bytes.{number_at}
use Rattle.memory.proofs.Joined.{number_split}
use Rattle.table.specs.Records.{object_base, object_record}
use Rattle.state.specs.Layout.{ipdu_row, ipdu_state}

-- two numbers of the row of I-PDU k
module _ {x : ℕ} (m : List ℕ) (k : ℕ) where
  pub flags_read : x ≡ number_at 2 (ipdu_row k) m → x ≡ (ipdu_state m k).requested + 256 * (ipdu_state m k).wanted
  unfolding ipdu_state
  flags_read e = rw (add-zero (ipdu_row k)) (omega (arith, e, number_split 1 1 (ipdu_row k) (ipdu_row k + 1) m (omega arith)))

  pub ticks_read : x ≡ number_at 4 (ipdu_row k + 4) m → x ≡ (ipdu_state m k).delay + 65536 * (ipdu_state m k).deadline
  unfolding ipdu_state
  ticks_read e = omega (arith, e, number_split 2 2 (ipdu_row k + 4) (ipdu_row k + 6) m (omega arith))

-- the depth of object i
pub depth_limit : {x : ℕ} (t : List ℕ) (n i : ℕ) → x ≡ number_at 1 (object_base n + 32 * i + 7) t → x ≡ (object_record t n i).depth
unfolding object_record
depth_limit t n i e = e
