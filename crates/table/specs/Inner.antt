-- What the tests of one record hand on to each other: parts of the rules, and the tests that a caller has made. Nothing of it is in what the check
-- means. Assumes nothing.
use Rattle.std.specs.Prelude.{Bool, true, ◌&&◌, List, ◌≡◌, ℕ, ◌≤◌, ◌<◌, leb, eqb}
use Rattle.memory.specs.Search.{pick}
use Rattle.bits.specs.Bits.{room}
use Rattle.filter.specs.Filters.{filter_right}
use Rattle.table.specs.declared.Counts.{Counts}
use Rattle.table.specs.declared.IpduRecord.{IpduRecord}
use Rattle.table.specs.declared.ObjectRecord.{ObjectRecord}
use Rattle.table.specs.Records.{sending, ipdu_record}
use Rattle.table.specs.Rules.{ipdu_right, order_of}

-- an I-PDU record of this direction, whose length and last bytes are right
pub record Begun (r : IpduRecord) (direction : ℕ) : Type 0 where
  pub least : 1 ≤ r.length
  pub most : r.length ≤ 8
  pub tail : r.zero_14 ≡ 0
  pub same : r.direction ≡ direction

-- every I-PDU record is right
pub record IpdusRight (t : List ℕ) (c : Counts) : Type 0 where
  pub each : (k : ℕ) → k < c.ipdus → ipdu_right (ipdu_record t k) ≡ true

-- the filter and the bytes above its number
unfoldable pub filter_field : ObjectRecord → Bool
filter_field r = eqb r.zero_9 0 && eqb r.zero_10 0 && filter_right r.filter r.first r.second

-- an object record whose last bytes and filter are right
pub record Filtered (r : ObjectRecord) : Type 0 where
  pub tail : r.zero_24 ≡ 0
  pub field : filter_field r ≡ true

-- size, order and start, in an I-PDU of this length
unfoldable pub place_field : ObjectRecord → ℕ → Bool
place_field r length = leb 1 r.size && leb r.size 32 && leb r.order 3 && room (order_of r.order) r.start r.size length

-- transfer property and depth of an object of this kind
unfoldable pub transfer_and_depth : ObjectRecord → ℕ → Bool
transfer_and_depth r kind = pick (eqb kind sending) (leb r.transfer 1 && eqb r.depth 0) (eqb r.transfer 0 && leb r.depth 16)
