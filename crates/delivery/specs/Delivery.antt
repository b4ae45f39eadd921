-- Document 01, "Calls": which message objects a value is delivered to, and which are marked, by rising number.
-- Assumes nothing.
use Rattle.std.specs.Prelude.{List, ℕ, eqb}
use Rattle.memory.specs.Search.{pick, fold}
use Rattle.table.specs.declared.Counts.{Counts}
use Rattle.table.specs.Records.{object_record}
use Rattle.state.specs.Layout.{object_state, with_object_state}
use Rattle.message.specs.Objects.{object, deliver, unpack, marked}

-- internal receivers: the receive objects with that sending object. Internal delivery passes the whole value.
abbrev pub inside_turn : List ℕ → Counts → ℕ → ℕ → ℕ → List ℕ → List ℕ
inside_turn t c sender v i m = pick (eqb (object_record t c.ipdus i).sender sender) (deliver (object t c i) i v m) m

unfoldable pub deliver_inside : List ℕ → Counts → ℕ → ℕ → List ℕ → List ℕ
deliver_inside t c sender v m = fold c.objects (inside_turn t c sender v) m

-- the objects of I-PDU k, each with its bits of the I-PDU
abbrev pub frame_turn : List ℕ → Counts → ℕ → ℕ → List ℕ → List ℕ
frame_turn t c k i m =
    pick (eqb (object_record t c.ipdus i).ipdu k) (deliver (object t c i) i (unpack (object t c i) m) m) m

unfoldable pub deliver_frame : List ℕ → Counts → ℕ → List ℕ → List ℕ
deliver_frame t c k m = fold c.objects (frame_turn t c k) m

-- a mark on each object of I-PDU k
abbrev pub mark_turn : List ℕ → Counts → ℕ → ℕ → ℕ → List ℕ → List ℕ
mark_turn t c k mark i m =
    pick (eqb (object_record t c.ipdus i).ipdu k) (with_object_state m i (marked mark (object_state m i))) m

unfoldable pub mark_objects : List ℕ → Counts → ℕ → ℕ → List ℕ → List ℕ
mark_objects t c k mark m = fold c.objects (mark_turn t c k mark) m
