-- Where the queues of the objects passed end, in units of a word of a row.
-- Assumes nothing.
use Rattle.std.proofs.Common.{List, ◌≡◌, ℕ, ◌+◌, ◌*◌, ◌/◌, ◌%◌, ◌^◌, ◌<◌, add-one, arith}
use Rattle.table.specs.declared.Counts.{Counts}
use Rattle.table.specs.Records.{object_record}
use Rattle.table.specs.Check.{depths, Right}
use Rattle.state.proofs.Turns.{depth_sum}
use Rattle.ranges.specs.Inner.{queue_unit}

pub whole_units : {q : ℕ} (n : ℕ) → q ≡ queue_unit * n → q % queue_unit ≡ 0
whole_units n e = omega arith

pub in_units : {q : ℕ} (n : ℕ) → q ≡ queue_unit * n → q / queue_unit ≡ n
in_units n e = omega arith

module _ (t : List ℕ) (c : Counts) (i : ℕ) {q : ℕ} (sum : q ≡ queue_unit * depths t c i) {d : ℕ} (here : d ≡ (object_record t c.ipdus i).depth) where
  pub next_queue : q + queue_unit * d ≡ queue_unit * depths t c (i + 1)
  next_queue = rw (add-one i) (omega (arith, sum, here))

  pub queue_fits : Right t c → i < c.objects → q + queue_unit * d < 2 ^ 64
  queue_fits right h = omega (arith, sum, here, depth_sum t c right i h)
