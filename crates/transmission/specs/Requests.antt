-- Document 01, "Calls": the requests, the period and the timer of one I-PDU, and its bytes in the request area.
-- Assumes nothing.
use Rattle.std.specs.Prelude.{Bool, true, ◌&&◌, List, ◌++◌, ℕ, ◌-◌, ◌*◌, eqb, replicate}
use Rattle.memory.specs.Bytes.{part, replaced}
use Rattle.memory.specs.Search.{pick}
use Rattle.config.specs.declared.Ipdu.{Ipdu}
use Rattle.config.specs.declared.Mode.{Mode}
use Rattle.config.specs.declared.Mode.TheVariants.{Direct, Periodic, Mixed}
use Rattle.table.specs.Records.{ipdu_record}
use Rattle.config.specs.Decode.{ipdu_of}
use Rattle.state.specs.declared.IpduState.{IpduState}
use Rattle.state.specs.Layout.{slot_at}
use Rattle.state.specs.Updates.{with_request, with_wanted, with_delay, with_timer}

-- I-PDU k of a table
abbrev pub ipdu : List ℕ → ℕ → Ipdu
ipdu t k = ipdu_of (ipdu_record t k)

-- ---- requests

-- when a request may go: in a periodic I-PDU always, in the others while no delay runs and none is open
abbrev pub may_go : Mode → IpduState → Bool
may_go Direct s = eqb s.delay 0 && eqb s.requested 0
may_go Periodic s = true
may_go Mixed s = eqb s.delay 0 && eqb s.requested 0

-- it is wanted and may go
unfoldable pub is_due : Ipdu → IpduState → Bool
is_due p s = eqb s.wanted 1 && may_go p.mode s

-- once made it is wanted no more, and open; the deadline of one that was open runs on
unfoldable pub request_made : Ipdu → IpduState → IpduState
request_made p s = with_wanted 0 (with_request 1 (pick (eqb s.requested 0) p.deadline s.deadline) s)

unfoldable pub after_request : Ipdu → IpduState → IpduState
after_request p s = pick (is_due p s) (request_made p s) s

-- the bytes of I-PDU k go to its slot of the request area, filled up with zeros; the rest of the area stays
unfoldable pub copied_to_area : ℕ → ℕ → List ℕ → List ℕ → List ℕ
copied_to_area length k m area = replaced (8 * k) (part (slot_at k) length m ++ replicate (8 - length) 0) area

-- the open request closed, with this delay
abbrev pub request_closed : ℕ → IpduState → IpduState
request_closed delay s = with_delay delay (with_request 0 0 s)

-- what a confirm leaves: no open request, and a delay of M after a good one
unfoldable pub confirmed : Bool → Ipdu → IpduState → IpduState
confirmed good p s = request_closed (pick good p.minimum_delay 0) s

-- ---- the receive timer: a good indication sets it to R

unfoldable pub timer_set : Ipdu → IpduState → IpduState
timer_set p s = with_timer p.deadline s
