-- The list of stored numbers (docs/MEMORY.md): where each stands in working memory. Of the bytes lent, the first 8,192 are used.
-- Bytes that no definition here reads are zero after a start. Assumes nothing.
use Rattle.std.specs.Prelude.{List, [], ◌∷◌, ℕ, ◌+◌, ◌*◌}
use Rattle.memory.specs.Bytes.{bytes_of, number_at, replaced}
use Rattle.memory.specs.Rows.{Field, field_at, put}
use Rattle.state.specs.declared.IpduState.{IpduState}
use Rattle.state.specs.declared.ObjectState.{ObjectState}

-- the bytes of working memory that are used
abbrev pub memory_size : ℕ
memory_size = 8192

-- the bytes of a request area that are used
abbrev pub area_size : ℕ
area_size = 256

-- a row of stored numbers, and where the parts of working memory begin
abbrev pub row_size : ℕ
row_size = 16

abbrev pub ipdu_rows : ℕ
ipdu_rows = 16

abbrev pub slots : ℕ
slots = 528

abbrev pub object_rows : ℕ
object_rows = 784

abbrev pub queues : ℕ
queues = 2832

-- byte 0: the layer runs, 1, or is stopped, 0
unfoldable pub running_at : List ℕ → ℕ
running_at m = number_at 1 0 m

unfoldable pub with_running : List ℕ → ℕ → List ℕ
with_running m on = replaced 0 (bytes_of 1 on) m

-- the stored numbers of I-PDU k
abbrev pub ipdu_row : ℕ → ℕ
ipdu_row k = ipdu_rows + row_size * k

unfoldable pub ipdu_state : List ℕ → ℕ → IpduState
ipdu_state m k =
    record {
      requested = number_at 1 (ipdu_row k + 0) m;
      wanted = number_at 1 (ipdu_row k + 1) m;
      running = number_at 1 (ipdu_row k + 2) m;
      delay = number_at 2 (ipdu_row k + 4) m;
      deadline = number_at 2 (ipdu_row k + 6) m;
      countdown = number_at 2 (ipdu_row k + 8) m;
      timer = number_at 2 (ipdu_row k + 10) m;
    }

abbrev pub ipdu_fields : IpduState → List Field
ipdu_fields s =
    field_at 0 1 s.requested
    ∷ field_at 1 1 s.wanted
    ∷ field_at 2 1 s.running
    ∷ field_at 4 2 s.delay
    ∷ field_at 6 2 s.deadline
    ∷ field_at 8 2 s.countdown
    ∷ field_at 10 2 s.timer
    ∷ []

unfoldable pub with_ipdu_state : List ℕ → ℕ → IpduState → List ℕ
with_ipdu_state m k s = put (ipdu_row k) (ipdu_fields s) m

-- the bytes of I-PDU k, zeros after its length
abbrev pub slot_at : ℕ → ℕ
slot_at k = slots + 8 * k

-- the stored numbers of object i
abbrev pub object_row : ℕ → ℕ
object_row i = object_rows + row_size * i

unfoldable pub object_state : List ℕ → ℕ → ObjectState
object_state m i =
    record {
      value = number_at 4 (object_row i + 0) m;
      old = number_at 4 (object_row i + 4) m;
      occurrence = number_at 1 (object_row i + 8) m;
      marks = number_at 1 (object_row i + 9) m;
      overflow = number_at 1 (object_row i + 10) m;
      head = number_at 1 (object_row i + 11) m;
      count = number_at 1 (object_row i + 12) m;
      queue = number_at 2 (object_row i + 14) m;
    }

abbrev pub object_fields : ObjectState → List Field
object_fields s =
    field_at 0 4 s.value
    ∷ field_at 4 4 s.old
    ∷ field_at 8 1 s.occurrence
    ∷ field_at 9 1 s.marks
    ∷ field_at 10 1 s.overflow
    ∷ field_at 11 1 s.head
    ∷ field_at 12 1 s.count
    ∷ field_at 14 2 s.queue
    ∷ []

unfoldable pub with_object_state : List ℕ → ℕ → ObjectState → List ℕ
with_object_state m i s = put (object_row i) (object_fields s) m
