-- Marks on the objects of several I-PDUs in one walk over the objects, as tick makes them once it knows all whose time ran out. The definition of
-- tick marks I-PDU by I-PDU; `ipdu_calls` proves that both come to the same. Assumes nothing.
use Rattle.std.specs.Prelude.{Bool, ◌&&◌, List, ℕ, ltb, eqb}
use Rattle.memory.specs.Search.{pick, fold}
use Rattle.bits.specs.Bits.{bit}
use Rattle.table.specs.declared.Counts.{Counts}
use Rattle.table.specs.declared.ObjectRecord.{ObjectRecord}
use Rattle.table.specs.Records.{most_ipdus, sending, object_record}
use Rattle.state.specs.Layout.{object_state, with_object_state}
use Rattle.message.specs.Objects.{mark_receive_error, mark_send_error, marked}

-- the error of a time that ran out: send error on a send object, receive error on a receive object
abbrev pub time_error : ObjectRecord → ℕ
time_error r = pick (eqb r.kind sending) mark_send_error mark_receive_error

-- I-PDU k has its bit in the word
abbrev pub in_word : ℕ → ℕ → Bool
in_word word k = ltb k most_ipdus && eqb (bit word k) 1

abbrev pub due_turn : List ℕ → Counts → ℕ → ℕ → List ℕ → List ℕ
due_turn t c word i m =
    pick (in_word word (object_record t c.ipdus i).ipdu) (with_object_state m i (marked (time_error (object_record t c.ipdus i)) (object_state m i))) m

unfoldable pub mark_due : List ℕ → Counts → ℕ → List ℕ → List ℕ
mark_due t c word m = fold c.objects (due_turn t c word) m
