-- What a record of a right table means: document 01's fields as structs; the length of an I-PDU, and whether an object is signed (W-207).
-- Assumes nothing.
use Rattle.std.specs.Prelude.{Bool, ◌&&◌, List, Result, Ok, Err, ℕ, ltb, eqb}
use Rattle.memory.specs.Search.{pick}
use Rattle.bits.specs.Slots.{position}
use Rattle.config.specs.declared.Direction.{Direction}
use Rattle.config.specs.declared.Direction.TheVariants.{Send, Receive}
use Rattle.config.specs.declared.Mode.{Mode}
use Rattle.config.specs.declared.Mode.TheVariants.{Direct, Periodic, Mixed}
use Rattle.config.specs.declared.Transfer.{Transfer}
use Rattle.config.specs.declared.Transfer.TheVariants.{Triggered, Pending}
use Rattle.config.specs.declared.Ipdu.{Ipdu}
use Rattle.config.specs.declared.Object.{Object}
use Rattle.table.specs.declared.IpduRecord.{IpduRecord}
use Rattle.table.specs.declared.ObjectRecord.{ObjectRecord}
use Rattle.table.specs.declared.WrongRecord.{WrongRecord}
use Rattle.table.specs.declared.Counts.{Counts}
use Rattle.table.specs.Records.{ipdu_record, object_record}
use Rattle.table.specs.Rules.{order_of, signed_of, record_filter}
use Rattle.table.specs.Check.{check}

-- direction and kind: 1 send, 2 receive
abbrev pub direction_of : ℕ → Direction
direction_of n = pick (eqb n 1) Send Receive

-- mode: 0 direct, 1 periodic, 2 mixed
abbrev pub mode_of : ℕ → Mode
mode_of n = pick (eqb n 0) Direct (pick (eqb n 1) Periodic Mixed)

-- transfer: 0 triggered, 1 pending
abbrev pub transfer_of : ℕ → Transfer
transfer_of n = pick (eqb n 0) Triggered Pending

unfoldable pub ipdu_of : IpduRecord → Ipdu
ipdu_of r =
    record {
      direction = direction_of r.direction;
      length = record { 0 = r.length };
      mode = mode_of r.mode;
      period = r.period;
      offset = r.offset;
      minimum_delay = r.minimum_delay;
      deadline = r.deadline;
      first_deadline = r.first_deadline;
    }

-- the filter has its own constants and no others
unfoldable pub object_of : ObjectRecord → Object
object_of r =
    record {
      direction = direction_of r.kind;
      ipdu = record { 0 = r.ipdu };
      sender = record { 0 = r.sender };
      order = order_of r.order;
      signed = signed_of r.order;
      at = position (order_of r.order) r.start;
      size = record { 0 = r.size };
      transfer = transfer_of r.transfer;
      depth = r.depth;
      filter = record_filter r;
      initial = r.initial;
    }

-- the length of an I-PDU in bytes, 1 to 8; 0 where the table is wrong or has no such I-PDU
abbrev pub length_by : Result Counts WrongRecord → List ℕ → ℕ → ℕ
length_by (Ok c) t k = pick (ltb k c.ipdus) (ipdu_record t k).length 0
length_by (Err wrong) t k = 0

unfoldable pub ipdu_length : List ℕ → ℕ → ℕ
ipdu_length t k = length_by (check t) t k

-- there is an object of this number, and it is signed
unfoldable pub is_signed : List ℕ → Counts → ℕ → Bool
is_signed t c i = ltb i c.objects && signed_of (object_record t c.ipdus i).order
