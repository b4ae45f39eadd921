-- Document 01, "The table", with W-205: each rule of the check with records on both sides of its boundary, and which record is named.
-- Worked out from the document. Assumes nothing.
use Rattle.std.specs.Prelude.{List, [], ◌∷◌, ◌++◌, ℕ, ◌+◌, replicate, Result, Err, Ok}
use Rattle.memory.specs.Bytes.{part, replaced}
use Rattle.table.specs.declared.WrongRecord.{WrongRecord}
use Rattle.cases.specs.Case.{Case, checks, pair, table_of, send_ipdu, receive_ipdu, ipdu_bytes, send_object, object_bytes}
use Rattle.cases.specs.Lines.{direct_ipdu, sent_byte, received_byte, internal_receiver}
use Rattle.table.specs.declared.Counts.{Counts}
use Rattle.table.specs.declared.WrongRecord.TheVariants.{Header, Ipdu, Object}

abbrev accepted : (ipdus objects : ℕ) → Result Counts WrongRecord
accepted ipdus objects = Ok (record { ipdus = ipdus; objects = objects })

abbrev ipdu_named : ℕ → Result Counts WrongRecord
ipdu_named k = Err (Ipdu (record { 0 = k }))

abbrev object_named : ℕ → Result Counts WrongRecord
object_named i = Err (Object (record { 0 = i }))

-- a table with one byte set
abbrev with_byte : (place byte : ℕ) → List ℕ → List ℕ
with_byte place byte table = replaced place (byte ∷ []) table

-- an object record that is wrong by its kind alone
abbrev kind3 : List ℕ
kind3 = object_bytes 3 255 255 0 32 0 0 0 0 0 0 0

-- ---- header

-- document 01's table of case 12, 64 bytes
abbrev table12 : List ℕ
table12 = pair (send_ipdu 0 0 0 3 10) (send_object 5 0 0)

abbrev header_byte : (place byte : ℕ) → Case
header_byte place byte = checks (with_byte place byte table12) (Err Header)

abbrev pub header_rules : List Case
header_rules =
    checks table12 (accepted 1 1)
    ∷ checks (with_byte 36 33 table12) (object_named 0)
    -- I-PDU count and object count, two bytes each
    ∷ header_byte 0 0 ∷ header_byte 0 2 ∷ header_byte 1 1 ∷ header_byte 2 0 ∷ header_byte 2 2 ∷ header_byte 3 1
    -- offset of I-PDU records, 16; of object records, 16 + 16·I-PDUs
    ∷ header_byte 4 17 ∷ header_byte 5 1 ∷ header_byte 6 31 ∷ header_byte 7 1
    -- total length
    ∷ header_byte 8 63 ∷ header_byte 9 1
    -- six zero bytes
    ∷ header_byte 10 1 ∷ header_byte 11 1 ∷ header_byte 12 1 ∷ header_byte 13 1 ∷ header_byte 14 1 ∷ header_byte 15 1
    -- the slice length equals the total, and the total the records'
    ∷ checks (table12 ++ (0 ∷ [])) (Err Header)
    ∷ checks (part 0 63 table12) (Err Header)
    ∷ checks (with_byte 8 65 table12 ++ (0 ∷ [])) (Err Header)
    -- fewer than 16 bytes are no header; 16 are enough
    ∷ checks [] (Err Header)
    ∷ checks (part 0 15 (table_of [] [])) (Err Header)
    ∷ checks (table_of [] []) (accepted 0 0)
    -- at most 32 I-PDUs and 128 objects (the header is right, object 0 is not)
    ∷ checks (table_of (replicate 32 direct_ipdu) []) (accepted 32 0)
    ∷ checks (table_of (replicate 33 direct_ipdu) []) (Err Header)
    ∷ checks (table_of [] (replicate 128 kind3)) (object_named 0)
    ∷ checks (table_of [] (replicate 129 kind3)) (Err Header)
    ∷ []

-- ---- I-PDU records

abbrev ipdu_accepted : List ℕ → Case
ipdu_accepted ipdu = checks (table_of (ipdu ∷ []) []) (accepted 1 0)

abbrev ipdu_refused : List ℕ → Case
ipdu_refused ipdu = checks (table_of (ipdu ∷ []) []) (ipdu_named 0)

-- a right send record with one byte set
abbrev ipdu_byte : (place byte : ℕ) → Case
ipdu_byte place byte = checks (with_byte (16 + place) byte (table_of (direct_ipdu ∷ []) [])) (ipdu_named 0)

-- direction, L, mode, period, offset, minimum delay, deadline, first deadline
abbrev pub ipdu_rules : List Case
ipdu_rules =
    -- direction 1 or 2
    ipdu_refused (ipdu_bytes 0 4 0 0 0 0 1 0) ∷ ipdu_refused (ipdu_bytes 3 4 0 0 0 0 1 0)
    -- L 1..8
    ∷ ipdu_refused (ipdu_bytes 1 0 0 0 0 0 1 0) ∷ ipdu_accepted (ipdu_bytes 1 1 0 0 0 0 1 0)
    ∷ ipdu_accepted (ipdu_bytes 2 8 0 0 0 0 0 0) ∷ ipdu_refused (ipdu_bytes 2 9 0 0 0 0 0 0)
    -- mode 0..2
    ∷ ipdu_refused (ipdu_bytes 1 4 3 1 1 0 1 0) ∷ ipdu_refused (ipdu_bytes 1 4 3 0 0 0 1 0)
    -- the rest zero: bytes 3, 14 and 15
    ∷ ipdu_byte 3 1 ∷ ipdu_byte 14 1 ∷ ipdu_byte 15 1
    -- send: deadline at least 1, in two bytes, F zero
    ∷ ipdu_refused (ipdu_bytes 1 4 0 0 0 0 0 0) ∷ ipdu_accepted (ipdu_bytes 1 4 0 0 0 0 256 0) ∷ ipdu_refused (ipdu_bytes 1 4 0 0 0 0 10 1)
    -- mode 0 has P and offset zero, and any M
    ∷ ipdu_refused (ipdu_bytes 1 4 0 1 0 0 10 0) ∷ ipdu_refused (ipdu_bytes 1 4 0 0 1 0 10 0) ∷ ipdu_accepted (ipdu_bytes 1 4 0 0 0 65535 65535 0)
    -- mode 1 has both at least 1, and M zero
    ∷ ipdu_accepted (ipdu_bytes 1 4 1 1 1 0 1 0) ∷ ipdu_accepted (ipdu_bytes 1 4 1 256 512 0 1 0)
    ∷ ipdu_refused (ipdu_bytes 1 4 1 0 1 0 1 0) ∷ ipdu_refused (ipdu_bytes 1 4 1 1 0 0 1 0) ∷ ipdu_refused (ipdu_bytes 1 4 1 1 1 1 1 0)
    -- mode 2 has both at least 1, and any M
    ∷ ipdu_accepted (ipdu_bytes 1 4 2 1 1 1 1 0) ∷ ipdu_refused (ipdu_bytes 1 4 2 0 1 0 1 0) ∷ ipdu_refused (ipdu_bytes 1 4 2 1 0 0 1 0)
    -- receive: mode, P, offset and M zero
    ∷ ipdu_refused (ipdu_bytes 2 4 1 0 0 0 0 0) ∷ ipdu_refused (ipdu_bytes 2 4 1 1 1 0 1 0) ∷ ipdu_refused (ipdu_bytes 2 4 0 1 0 0 0 0)
    ∷ ipdu_refused (ipdu_bytes 2 4 0 0 1 0 0 0) ∷ ipdu_refused (ipdu_bytes 2 4 0 0 0 1 0 0)
    -- F above zero needs R above zero
    ∷ ipdu_accepted (ipdu_bytes 2 4 0 0 0 0 1 0) ∷ ipdu_accepted (ipdu_bytes 2 4 0 0 0 0 1 5) ∷ ipdu_refused (ipdu_bytes 2 4 0 0 0 0 0 1)
    ∷ []

-- ---- object records, alone in a table whose I-PDU 0 is sent, L 4, and 1 received, L 8

abbrev both_ipdus : List (List ℕ)
both_ipdus = direct_ipdu ∷ ipdu_bytes 2 8 0 0 0 0 0 0 ∷ []

abbrev object_accepted : List ℕ → Case
object_accepted object = checks (table_of both_ipdus (object ∷ [])) (accepted 2 1)

abbrev object_refused : List ℕ → Case
object_refused object = checks (table_of both_ipdus (object ∷ [])) (object_named 0)

-- a right send record with one byte set
abbrev object_byte : (place byte : ℕ) → Case
object_byte place byte = checks (with_byte (48 + place) byte (table_of both_ipdus (send_object 0 0 0 ∷ []))) (object_named 0)

-- kind, I-PDU, sending object, start bit, length, order, transfer, depth, filter, initial value, constants
abbrev pub object_rules : List Case
object_rules =
    -- the initial value need not fit
    object_accepted (object_bytes 1 0 255 13 12 0 0 0 0 4294967295 0 0)
    -- kind 1 or 2
    ∷ object_refused (object_bytes 0 255 255 0 32 0 0 0 0 0 0 0) ∷ object_refused kind3
    -- an I-PDU that is not there, or of the other direction
    ∷ object_refused (object_bytes 1 2 255 13 12 0 0 0 0 0 0 0) ∷ object_refused (object_bytes 2 254 255 13 12 0 0 0 0 0 0 0)
    ∷ object_refused (object_bytes 1 1 255 13 12 0 0 0 0 0 0 0) ∷ object_refused (object_bytes 2 0 255 13 12 0 0 0 0 0 0 0)
    -- a send object with a sender, or with a queue
    ∷ object_refused (object_bytes 1 0 0 13 12 0 0 0 0 0 0 0) ∷ object_refused (object_bytes 1 0 255 13 12 0 0 1 0 0 0 0)
    -- transfer 0 or 1; 0 in a receive object
    ∷ object_accepted (object_bytes 1 0 255 13 12 0 1 0 0 0 0 0) ∷ object_refused (object_bytes 1 0 255 13 12 0 2 0 0 0 0 0)
    ∷ object_refused (object_bytes 2 1 255 13 12 0 1 0 0 0 0 0)
    -- length 1..32
    ∷ object_refused (object_bytes 2 1 255 0 0 0 0 0 0 0 0 0) ∷ object_accepted (object_bytes 2 1 255 0 1 0 0 0 0 0 0 0)
    ∷ object_accepted (object_bytes 2 1 255 0 32 0 0 0 0 0 0 0) ∷ object_refused (object_bytes 2 1 255 0 33 0 0 0 0 0 0 0)
    -- byte order 0 to 3; 2 and 3 are signed (W-207)
    ∷ object_accepted (object_bytes 1 0 255 18 12 1 0 0 0 0 0 0) ∷ object_accepted (object_bytes 1 0 255 13 12 2 0 0 0 0 0 0)
    ∷ object_accepted (object_bytes 2 1 255 18 12 3 0 0 0 0 0 0) ∷ object_refused (object_bytes 1 0 255 18 12 4 0 0 0 0 0 0)
    -- depth 0..16
    ∷ object_accepted (object_bytes 2 1 255 0 8 0 0 16 0 0 0 0) ∷ object_refused (object_bytes 2 1 255 0 8 0 0 17 0 0 0 0)
    -- outside any I-PDU all 32 bits from bit 0 on, little or signed little; either transfer
    ∷ object_accepted (object_bytes 1 255 255 0 32 0 1 0 0 0 0 0) ∷ object_accepted (object_bytes 2 255 255 0 32 0 0 4 0 0 0 0)
    ∷ object_refused (object_bytes 1 255 255 1 32 0 0 0 0 0 0 0) ∷ object_refused (object_bytes 1 255 255 0 31 0 0 0 0 0 0 0)
    ∷ object_refused (object_bytes 2 255 255 0 32 1 0 0 0 0 0 0) ∷ object_accepted (object_bytes 2 255 255 0 32 2 0 4 0 0 0 0)
    ∷ object_refused (object_bytes 1 255 255 0 32 3 0 0 0 0 0 0)
    -- all bits lie inside the I-PDU: little, start + length at most 8L
    ∷ object_accepted (object_bytes 1 0 255 20 12 0 0 0 0 0 0 0) ∷ object_refused (object_bytes 1 0 255 21 12 0 0 0 0 0 0 0)
    ∷ object_accepted (object_bytes 2 1 255 32 32 0 0 0 0 0 0 0) ∷ object_refused (object_bytes 2 1 255 33 32 0 0 0 0 0 0 0)
    -- big, start below 8L and length at most 8·(start div 8 + 1) − start mod 8
    ∷ object_accepted (object_bytes 1 0 255 31 25 1 0 0 0 0 0 0) ∷ object_refused (object_bytes 1 0 255 31 26 1 0 0 0 0 0 0)
    ∷ object_accepted (object_bytes 1 0 255 7 1 1 0 0 0 0 0 0) ∷ object_refused (object_bytes 1 0 255 7 2 1 0 0 0 0 0 0)
    ∷ object_refused (object_bytes 1 0 255 32 1 1 0 0 0 0 0 0)
    -- signed ones by the same walk
    ∷ object_accepted (object_bytes 1 0 255 20 12 2 0 0 0 0 0 0) ∷ object_refused (object_bytes 1 0 255 21 12 2 0 0 0 0 0 0)
    ∷ object_accepted (object_bytes 1 0 255 31 25 3 0 0 0 0 0 0) ∷ object_refused (object_bytes 1 0 255 31 26 3 0 0 0 0 0 0)
    -- the rest zero: bytes 9 to 11 and 24 to 31
    ∷ object_byte 9 1 ∷ object_byte 10 1 ∷ object_byte 11 1 ∷ object_byte 24 1 ∷ object_byte 31 1
    ∷ []

-- filter and its constants, in a send object
abbrev pub filter_constant_rules : List Case
filter_constant_rules =
    -- filter 0..14
    object_refused (send_object 15 0 0) ∷ object_refused (send_object 255 0 0)
    -- 0, 1, 4, 5 and 10 to 13 need no constant: both zero
    ∷ object_refused (send_object 0 1 0) ∷ object_refused (send_object 0 0 1) ∷ object_refused (send_object 0 16777216 0)
    ∷ object_refused (send_object 1 1 0) ∷ object_refused (send_object 1 0 1)
    ∷ object_refused (send_object 4 1 0) ∷ object_refused (send_object 4 0 1) ∷ object_refused (send_object 5 1 0) ∷ object_refused (send_object 5 0 1)
    ∷ object_refused (send_object 10 1 0) ∷ object_refused (send_object 10 0 1) ∷ object_refused (send_object 11 1 0) ∷ object_refused (send_object 11 0 1)
    ∷ object_refused (send_object 12 1 0) ∷ object_refused (send_object 12 0 1) ∷ object_refused (send_object 13 1 0) ∷ object_refused (send_object 13 0 1)
    -- 6 and 7 need mask alone
    ∷ object_accepted (send_object 6 4294967295 0) ∷ object_refused (send_object 6 4 1)
    ∷ object_accepted (send_object 7 4294967295 0) ∷ object_refused (send_object 7 4 1)
    -- 2 and 3 mask and x, 8 and 9 min and max; min above max is allowed
    ∷ object_accepted (send_object 2 12 4) ∷ object_accepted (send_object 3 12 4) ∷ object_accepted (send_object 8 5 2) ∷ object_accepted (send_object 9 5 2)
    -- 14: period 1..255, offset below it
    ∷ object_refused (send_object 14 0 0) ∷ object_accepted (send_object 14 1 0) ∷ object_refused (send_object 14 1 1)
    ∷ object_accepted (send_object 14 255 254) ∷ object_refused (send_object 14 255 255) ∷ object_refused (send_object 14 256 0)
    ∷ []

-- ---- several objects

-- objects over a send I-PDU
abbrev objects_give : List (List ℕ) → Result Counts WrongRecord → Case
objects_give objects verdict = checks (table_of (direct_ipdu ∷ []) objects) verdict

-- unqueued or queued, with neither I-PDU nor sending object
abbrev queue_of : (depth : ℕ) → List ℕ
queue_of depth = object_bytes 2 255 255 0 32 0 0 depth 0 0 0 0

abbrev big18 : List ℕ
big18 = object_bytes 1 0 255 18 12 1 0 0 0 0 0 0

abbrev little : (n size : ℕ) → List ℕ
little n size = object_bytes 1 0 255 n size 0 0 0 0 0 0 0

abbrev pub table_rules : List Case
table_rules =
    -- the sending object exists, lower or higher, and has kind 1
    objects_give (send_object 0 0 0 ∷ internal_receiver 0 0 0 0 ∷ []) (accepted 1 2)
    ∷ objects_give (internal_receiver 1 0 0 0 ∷ send_object 0 0 0 ∷ []) (accepted 1 2)
    ∷ objects_give (send_object 0 0 0 ∷ internal_receiver 2 0 0 0 ∷ []) (object_named 1)
    ∷ objects_give (send_object 0 0 0 ∷ internal_receiver 1 0 0 0 ∷ []) (object_named 1)
    ∷ objects_give (internal_receiver 1 0 0 0 ∷ kind3 ∷ []) (object_named 0)
    -- another fault of the sender is not named at its receiver
    ∷ objects_give (internal_receiver 1 0 0 0 ∷ send_object 15 0 0 ∷ []) (object_named 1)
    -- an I-PDU, a sender, neither, but not both
    ∷ checks (table_of both_ipdus (send_object 0 0 0 ∷ object_bytes 2 1 255 0 32 0 0 0 0 0 0 0 ∷ [])) (accepted 2 2)
    ∷ checks (table_of both_ipdus (send_object 0 0 0 ∷ object_bytes 2 1 0 0 32 0 0 0 0 0 0 0 ∷ [])) (object_named 1)
    -- send objects may share bits (W-205): some, the same twice, of either order
    ∷ objects_give (little 0 8 ∷ little 7 8 ∷ []) (accepted 1 2)
    ∷ objects_give (little 7 8 ∷ little 7 8 ∷ []) (accepted 1 2)
    ∷ objects_give (big18 ∷ little 13 1 ∷ little 0 32 ∷ []) (accepted 1 3)
    -- one that shares a bit and is wrong otherwise is named: past the I-PDU's end, by its filter
    ∷ objects_give (little 0 8 ∷ little 7 26 ∷ little 0 8 ∷ []) (object_named 1)
    ∷ objects_give (little 0 8 ∷ little 4 8 ∷ sent_byte 0 4 0 15 0 ∷ []) (object_named 2)
    -- objects without I-PDU
    ∷ objects_give (object_bytes 1 255 255 0 32 0 0 0 0 0 0 0 ∷ object_bytes 1 255 255 0 32 0 0 0 0 0 0 0 ∷ []) (accepted 1 2)
    -- receive objects may share bits
    ∷ checks (table_of (receive_ipdu 0 0 ∷ []) (received_byte 0 0 0 0 0 ∷ received_byte 0 4 2 0 0 ∷ [])) (accepted 1 2)
    -- depths sum to at most 512; the object that carries the sum past it is named
    ∷ checks (table_of [] (replicate 32 (queue_of 16))) (accepted 0 32)
    ∷ checks (table_of [] (replicate 32 (queue_of 16) ++ (queue_of 0 ∷ queue_of 1 ∷ []))) (object_named 33)
    -- the first wrong record: the header, else the lowest I-PDU, else the lowest object, whatever is wrong with it
    ∷ checks (with_byte 15 1 (pair (send_ipdu 0 0 0 0 0) kind3)) (Err Header)
    ∷ checks (table_of (direct_ipdu ∷ send_ipdu 0 0 0 0 0 ∷ send_ipdu 0 0 0 0 0 ∷ []) (kind3 ∷ [])) (ipdu_named 1)
    ∷ objects_give (little 0 8 ∷ kind3 ∷ kind3 ∷ []) (object_named 1)
    ∷ objects_give (little 0 8 ∷ little 7 8 ∷ kind3 ∷ []) (object_named 2)
    ∷ objects_give (little 0 8 ∷ kind3 ∷ little 7 8 ∷ []) (object_named 1)
    ∷ []
