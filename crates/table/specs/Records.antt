-- Document 01, "The table": where each record stands and what its bytes are. Numbers are little-endian.
-- Assumes nothing.
use Rattle.std.specs.Prelude.{List, ℕ, ◌+◌, ◌*◌}
use Rattle.memory.specs.Bytes.{number_at}
use Rattle.table.specs.declared.Counts.{Counts}
use Rattle.table.specs.declared.IpduRecord.{IpduRecord}
use Rattle.table.specs.declared.ObjectRecord.{ObjectRecord}

-- limits of the counts and of the sum of the queue depths
abbrev pub most_ipdus : ℕ
most_ipdus = 32

abbrev pub most_objects : ℕ
most_objects = 128

abbrev pub most_queued : ℕ
most_queued = 512

-- the kind of a send object and the direction of a send I-PDU; of a receive object and a receive I-PDU
abbrev pub sending : ℕ
sending = 1

abbrev pub receiving : ℕ
receiving = 2

-- the number of an I-PDU or a sending object that stands for none
abbrev pub absent : ℕ
absent = 255

-- 16 bytes of header, then 16 for each I-PDU, then 32 for each object
abbrev pub ipdu_base : ℕ
ipdu_base = 16

abbrev pub object_base : ℕ → ℕ
object_base ipdus = ipdu_base + 16 * ipdus

abbrev pub table_length : ℕ → ℕ → ℕ
table_length ipdus objects = object_base ipdus + 32 * objects

unfoldable pub counts : List ℕ → Counts
counts t = record { ipdus = number_at 2 0 t; objects = number_at 2 2 t }

-- an I-PDU record, 16 bytes from a on
abbrev pub ipdu_record_at : ℕ → List ℕ → IpduRecord
ipdu_record_at a t =
    record {
      direction = number_at 1 a t;
      length = number_at 1 (a + 1) t;
      mode = number_at 1 (a + 2) t;
      zero_3 = number_at 1 (a + 3) t;
      period = number_at 2 (a + 4) t;
      offset = number_at 2 (a + 6) t;
      minimum_delay = number_at 2 (a + 8) t;
      deadline = number_at 2 (a + 10) t;
      first_deadline = number_at 2 (a + 12) t;
      zero_14 = number_at 2 (a + 14) t;
    }

unfoldable pub ipdu_record : List ℕ → ℕ → IpduRecord
ipdu_record t k = ipdu_record_at (ipdu_base + 16 * k) t

-- an object record, 32 bytes from a on
abbrev pub object_record_at : ℕ → List ℕ → ObjectRecord
object_record_at a t =
    record {
      kind = number_at 1 a t;
      ipdu = number_at 1 (a + 1) t;
      sender = number_at 1 (a + 2) t;
      start = number_at 1 (a + 3) t;
      size = number_at 1 (a + 4) t;
      order = number_at 1 (a + 5) t;
      transfer = number_at 1 (a + 6) t;
      depth = number_at 1 (a + 7) t;
      filter = number_at 1 (a + 8) t;
      zero_9 = number_at 1 (a + 9) t;
      zero_10 = number_at 2 (a + 10) t;
      initial = number_at 4 (a + 12) t;
      first = number_at 4 (a + 16) t;
      second = number_at 4 (a + 20) t;
      zero_24 = number_at 8 (a + 24) t;
    }

-- of a table with so many I-PDUs
unfoldable pub object_record : List ℕ → ℕ → ℕ → ObjectRecord
object_record t ipdus i = object_record_at (object_base ipdus + 32 * i) t
