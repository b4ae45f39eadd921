-- Document 01, "The table" and the table parts of "Filters", and W-207's orders: when the header and a record are right by themselves.
-- Assumes nothing.
use Rattle.std.specs.Prelude.{Bool, not, ◌&&◌, ◌||◌, List, ℕ, ◌%◌, leb, ltb, eqb, length}
use Rattle.memory.specs.Bytes.{number_at}
use Rattle.memory.specs.Search.{pick}
use Rattle.bits.specs.declared.Order.{Order}
use Rattle.bits.specs.declared.Order.TheVariants.{Little, Big}
use Rattle.bits.specs.Bits.{room}
use Rattle.filter.specs.declared.Filter.{Filter}
use Rattle.filter.specs.Filters.{filter_of, filter_right}
use Rattle.table.specs.declared.Counts.{Counts}
use Rattle.table.specs.declared.IpduRecord.{IpduRecord}
use Rattle.table.specs.declared.ObjectRecord.{ObjectRecord}
use Rattle.table.specs.declared.References.{References}
use Rattle.table.specs.Records.{receiving, sending, most_ipdus, most_objects, absent, ipdu_base, object_base, table_length, counts, ipdu_record, object_record}

-- ---- the header

-- counts within their limits, the offsets and the total that follow from them, and six zero bytes
unfoldable pub offsets_right : List ℕ → Counts → Bool
offsets_right t c =
    leb c.ipdus most_ipdus
    && leb c.objects most_objects
    && eqb (number_at 2 4 t) ipdu_base
    && eqb (number_at 2 6 t) (object_base c.ipdus)
    && eqb (number_at 2 8 t) (table_length c.ipdus c.objects)
    && eqb (number_at 2 10 t) 0
    && eqb (number_at 4 12 t) 0
    && eqb (length t) (table_length c.ipdus c.objects)

-- a slice of exactly the length that the header gives, and of 16 bytes at least
unfoldable pub header_right : List ℕ → Bool
header_right t = leb 16 (length t) && offsets_right t (counts t)

-- ---- an I-PDU record: direction 1 send, 2 receive; mode 0 direct, 1 periodic, 2 mixed

-- a deadline and no first deadline; period and offset in the modes that have one, and in no other; no minimum delay in mode 1
abbrev pub send_ipdu : IpduRecord → Bool
send_ipdu r =
    leb 1 r.deadline
    && eqb r.first_deadline 0
    && (eqb r.mode 0 && eqb r.period 0 && eqb r.offset 0 || leb 1 r.mode && leb 1 r.period && leb 1 r.offset)
    && (not (eqb r.mode 1) || eqb r.minimum_delay 0)

-- nothing of a send I-PDU; a first deadline only with a deadline
abbrev pub receive_ipdu : IpduRecord → Bool
receive_ipdu r =
    eqb r.mode 0
    && eqb r.period 0
    && eqb r.offset 0
    && eqb r.minimum_delay 0
    && (eqb r.first_deadline 0 || leb 1 r.deadline)

-- length 1..8, mode 0..2, the rest zero
abbrev pub ipdu_bytes : IpduRecord → Bool
ipdu_bytes r = leb 1 r.length && leb r.length 8 && leb r.mode 2 && eqb r.zero_3 0 && eqb r.zero_14 0

unfoldable pub ipdu_right : IpduRecord → Bool
ipdu_right r = ipdu_bytes r && (eqb r.direction sending && send_ipdu r || eqb r.direction receiving && receive_ipdu r)

-- ---- an object record: kind 1 send, 2 receive; I-PDU or sending object 255 for none; order 0 little, 1 big, 2 signed little, 3 signed big

abbrev pub order_of : ℕ → Order
order_of n = pick (eqb (n % 2) 0) Little Big

abbrev pub signed_of : ℕ → Bool
signed_of n = leb 2 n

-- its filter, with the constants that it needs
abbrev pub record_filter : ObjectRecord → Filter
record_filter r = filter_of r.filter r.first r.second

-- what a record refers to: direction and length of its I-PDU, kind of its sending object; 0 where there is none such
unfoldable pub references : List ℕ → Counts → ObjectRecord → References
references t c r =
    record {
      direction = pick (ltb r.ipdu c.ipdus) (ipdu_record t r.ipdu).direction 0;
      length = pick (ltb r.ipdu c.ipdus) (ipdu_record t r.ipdu).length 0;
      sender_kind = pick (ltb r.sender c.objects) (object_record t c.ipdus r.sender).kind 0;
    }

-- a send object names no sender and has no queue
abbrev pub send_object : ObjectRecord → Bool
send_object r = eqb r.kind sending && eqb r.sender absent && eqb r.depth 0

-- a receive object has no transfer property, and not both an I-PDU and a sender
abbrev pub receive_object : ObjectRecord → Bool
receive_object r = eqb r.kind receiving && eqb r.transfer 0 && (eqb r.ipdu absent || eqb r.sender absent)

-- an object outside any I-PDU: all 32 bits from bit 0 on, little or signed little
abbrev pub without_ipdu : ObjectRecord → Bool
without_ipdu r = eqb r.ipdu absent && eqb r.start 0 && eqb r.size 32 && (eqb r.order 0 || eqb r.order 2)

-- the I-PDU is one of the table's, of the object's direction, and has room for all its bits
abbrev pub within_ipdu : ObjectRecord → References → Bool
within_ipdu r x = eqb x.direction r.kind && room (order_of r.order) r.start r.size x.length

-- the sender is one of the table's send objects
abbrev pub sender_right : ObjectRecord → References → Bool
sender_right r x = eqb r.sender absent || eqb x.sender_kind 1

-- each byte within its limits, and the rest zero
abbrev pub bytes_right : ObjectRecord → Bool
bytes_right r =
    leb 1 r.size
    && leb r.size 32
    && leb r.order 3
    && leb r.transfer 1
    && leb r.depth 16
    && eqb r.zero_9 0
    && eqb r.zero_10 0
    && eqb r.zero_24 0

unfoldable pub object_right : ObjectRecord → References → Bool
object_right r x =
    bytes_right r
    && (send_object r || receive_object r)
    && (without_ipdu r || within_ipdu r x)
    && sender_right r x
    && filter_right r.filter r.first r.second
