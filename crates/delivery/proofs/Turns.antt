-- What the turns of a walk over the objects leave in range, turn by turn, and that an object of an I-PDU of the table has a slot.
-- The laws ask for plain values, so that a search finds them. Assumes nothing.
use Rattle.std.proofs.Common.{List, ◌≡◌, ℕ, ◌^◌, ◌≤◌, ◌<◌, arith}
use Rattle.memory.specs.Search.{fold}
use Rattle.table.specs.declared.Counts.{Counts}
use Rattle.config.specs.declared.Object.{Object}
use Rattle.table.specs.declared.ObjectRecord.{ObjectRecord}
use Rattle.table.specs.Records.{most_ipdus, object_record}
use Rattle.table.specs.Check.{Right}
use Rattle.config.specs.Decode.{object_of}
use Rattle.state.specs.Ranges.{Ready}
use Rattle.message.specs.Objects.{object}
use Rattle.delivery.specs.Delivery.{inside_turn, frame_turn}
use Rattle.delivery.proofs.DeliveriesInRange.{ready_inside, ready_frame}

-- ---- what the turns so far leave in range

module _ (t : List ℕ) (c : Counts) (i : ℕ) (m₀ m : List ℕ) (ready : Ready t c m₀) (most : i ≤ c.objects) where
  pub inside_ready : (sender v : ℕ) → v < 2 ^ 32 → m ≡ fold i (inside_turn t c sender v) m₀ → Ready t c m
  inside_ready sender v fits so_far = rw so_far (ready_inside t c sender v i fits most m₀ ready)

  pub frame_ready : (k : ℕ) → m ≡ fold i (frame_turn t c k) m₀ → Ready t c m
  frame_ready k so_far = rw so_far (ready_frame t c k i most m₀ ready)

-- the I-PDU of an object that is in this one
pub frame_number : (t : List ℕ) (c : Counts) (i k : ℕ) (r : ObjectRecord) (o : Object) → Right t c → k < c.ipdus → r.ipdu ≡ k
    → r ≡ object_record t c.ipdus i → o ≡ object t c i → o.ipdu.0 < most_ipdus
unfolding object_of
frame_number t c i k r o right h here same decoded = rw (decoded, ← same, here) (omega (arith, h, right.shape.ipdus))
