-- Document 01, "Calls" and "Bits": send, initialise, receive, marks, queues, start again. Worked out from the document.
-- Assumes nothing.
use Rattle.std.specs.Prelude.{true, false, List, [], ◌∷◌, ◌++◌, replicate}
use Rattle.bits.specs.declared.Order.TheVariants.{Little, Big}
use Rattle.layer.specs.Step.{start, stop, send, initialise, receive, status, marks, clear_marks, start_periodic, stop_periodic, indication, confirm, tick}
use Rattle.cases.specs.Case.{line, shows, Case, packs, answers, pair, table_of, send_ipdu, receive_ipdu, ipdu_bytes, object_bytes, area}
use Rattle.cases.specs.Lines.{ok, refuses, send_gives, tick_gives, receive_gives, marks_give, arrives, confirm_good, confirm_not_good, direct_ipdu, sent_byte, received_byte, internal_receiver}

-- ---- bits

-- little order: on from the start bit over all bytes; big: from the byte's end to bit 0 of the byte before
abbrev bit_places : List Case
bit_places =
    packs Little false 0 32 0x01020304 4 (4 ∷ 3 ∷ 2 ∷ 1 ∷ []) 0x01020304
    ∷ packs Big false 24 32 0x01020304 4 (1 ∷ 2 ∷ 3 ∷ 4 ∷ []) 0x01020304
    ∷ packs Big false 63 9 511 8 (replicate 6 0 ++ (0xFF ∷ 0x80 ∷ [])) 511
    ∷ packs Little false 63 1 3 8 (replicate 7 0 ++ (0x80 ∷ [])) 1
    ∷ []

-- the last I-PDU of 32, with L 8 and the last 32 bits
abbrev last_ipdu : Case
last_ipdu =
    answers (table_of (replicate 31 direct_ipdu ++ (ipdu_bytes 1 8 0 0 0 0 10 0 ∷ [])) (object_bytes 1 31 255 32 32 0 0 0 0 0 0 0 ∷ []))
    (ok start
    ∷ shows (send 0 0x01020304 area) 0 2147483648 (0 ∷ 30 ∷ 31 ∷ []) (replicate 16 170 ++ replicate 4 0 ++ (4 ∷ 3 ∷ 2 ∷ 1 ∷ []))
    ∷ [])

-- start packs the initial values; packing sets an object's own bits and leaves its neighbours'
abbrev neighbours : Case
neighbours =
    answers
    (table_of (direct_ipdu ∷ [])
    (sent_byte 0 4 0 0 255 ∷ object_bytes 1 0 255 0 4 0 0 0 0 15 0 0 ∷ object_bytes 1 0 255 12 4 0 0 0 0 31 0 0 ∷ []))
    (ok start
    ∷ shows (send 0 0 area) 0 1 (0 ∷ []) (0x0F ∷ 0xF0 ∷ replicate 6 0)
    ∷ [])

-- big order over two bytes, the second being the one before; bits of no object are 0 when sent and are not
-- looked at when received
abbrev big_order : Case
big_order =
    answers
    (table_of (direct_ipdu ∷ receive_ipdu 0 0 ∷ []) (object_bytes 1 0 255 18 12 1 0 0 0 0 0 0 ∷ object_bytes 2 1 255 18 12 1 0 0 0 0 0 0 ∷ []))
    (ok start
    ∷ shows (send 0 2748 area) 0 1 (0 ∷ []) (0x00 ∷ 0x2A ∷ 0xF0 ∷ replicate 5 0)
    ∷ ok (indication 1 true (0xFF ∷ 0xEA ∷ 0xF3 ∷ 0xFF ∷ []))
    ∷ receive_gives 1 2748
    ∷ [])

-- ---- send and confirm

-- a pending object (0) packs and makes no request; neither it nor a dropped value (2) tries one that waits; the request has the latest
-- bytes; a good confirm marks sent on every object of the I-PDU, one that is not good send error, added; clear marks clears those of
-- one object
abbrev transfers : Case
transfers =
    answers (table_of (direct_ipdu ∷ direct_ipdu ∷ []) (sent_byte 0 0 1 0 263 ∷ sent_byte 0 8 0 0 0 ∷ sent_byte 0 16 0 1 0 ∷ internal_receiver 1 0 0 0 ∷ []))
    (ok start
    ∷ shows (send 1 34 area) 0 1 (0 ∷ []) (7 ∷ 34 ∷ replicate 6 0)
    ∷ send_gives 1 35 0
    ∷ confirm_good 0
    ∷ send_gives 0 18 0
    ∷ send_gives 2 99 0
    ∷ shows (tick area) 0 1 (0 ∷ 1 ∷ []) ((18 ∷ 35 ∷ replicate 6 0) ++ replicate 8 170)
    ∷ marks_give 0 2
    ∷ marks_give 1 2
    ∷ marks_give 2 2
    ∷ confirm_not_good 0
    ∷ marks_give 0 10
    ∷ marks_give 2 10
    ∷ marks_give 3 1
    ∷ ok (clear_marks 0)
    ∷ marks_give 0 0
    ∷ marks_give 1 10
    ∷ tick_gives 0
    ∷ [])

-- a pending send alone wants nothing, also at the next tick
abbrev pending_alone : Case
pending_alone =
    answers (pair direct_ipdu (sent_byte 0 0 1 0 0))
    (ok start
    ∷ send_gives 0 5 0
    ∷ tick_gives 0
    ∷ [])

-- ---- marks of receive objects

-- a good indication marks arrived on the objects that it passes to, one that is not good receive error on each and nothing else,
-- whatever the length; marks are added; a receive clears none
abbrev marks_received : Case
marks_received =
    answers (table_of (receive_ipdu 0 0 ∷ receive_ipdu 0 0 ∷ []) (received_byte 0 0 0 0 4660 ∷ received_byte 0 0 0 1 6 ∷ received_byte 1 0 0 0 0 ∷ []))
    (ok start
    -- an unqueued object gives its value each time, at first the initial value, whole; it has no status
    ∷ receive_gives 0 4660
    ∷ refuses (status 0) 1
    ∷ arrives 0 5
    ∷ marks_give 0 1
    ∷ marks_give 1 0
    ∷ receive_gives 0 5
    ∷ receive_gives 0 5
    ∷ ok (indication 0 false (9 ∷ 9 ∷ 9 ∷ 9 ∷ []))
    ∷ ok (indication 0 false (9 ∷ []))
    ∷ marks_give 0 5
    ∷ marks_give 1 4
    ∷ marks_give 2 0
    ∷ receive_gives 0 5
    ∷ ok (clear_marks 0)
    ∷ marks_give 0 0
    ∷ marks_give 1 4
    ∷ [])

-- ---- queues

-- what finds no room is lost, with a note, and becomes old (filter 5 then drops 8), unmarked; a value dropped at a full queue notes
-- nothing; the receive that gives 3 clears overflow
abbrev full_queue : Case
full_queue =
    answers (pair (receive_ipdu 0 0) (received_byte 0 0 1 5 3))
    (ok start
    ∷ arrives 0 3
    ∷ refuses (status 0) 4
    ∷ arrives 0 7
    ∷ arrives 0 7
    ∷ ok (status 0)
    ∷ ok (clear_marks 0)
    ∷ arrives 0 8
    ∷ refuses (status 0) 3
    ∷ marks_give 0 0
    ∷ line (receive 0) 3 7
    ∷ arrives 0 8
    ∷ refuses (status 0) 4
    ∷ arrives 0 7
    ∷ receive_gives 0 7
    ∷ [])

-- freed places are used again, the oldest value comes first, and a second queue keeps its own
abbrev freed_places : Case
freed_places =
    answers (table_of (receive_ipdu 0 0 ∷ []) (received_byte 0 0 2 0 0 ∷ received_byte 0 0 1 0 0 ∷ []))
    (ok start
    ∷ arrives 0 1
    ∷ arrives 0 2
    ∷ receive_gives 0 1
    ∷ arrives 0 3
    ∷ receive_gives 0 2
    ∷ receive_gives 0 3
    ∷ refuses (receive 0) 4
    ∷ line (receive 1) 3 1
    ∷ [])

-- ---- initialise

-- of a receive object: sets the value, whole and unfiltered; empties the queue, clears overflow, sets old (filter 5 then drops 9); no mark
abbrev initialise_received : Case
initialise_received =
    answers (table_of (receive_ipdu 0 0 ∷ []) (received_byte 0 0 0 1 0 ∷ received_byte 0 0 1 5 0 ∷ []))
    (ok start
    ∷ ok (initialise 0 4660)
    ∷ receive_gives 0 4660
    ∷ marks_give 0 0
    ∷ arrives 0 7
    ∷ arrives 0 8
    ∷ ok (initialise 1 9)
    ∷ refuses (status 1) 4
    ∷ arrives 0 9
    ∷ arrives 0 10
    ∷ receive_gives 1 10
    ∷ [])

-- of a send object: packs unfiltered (2 has filter 1), makes no request, sets old, whole, and reaches no internal receiver
abbrev initialise_sent : Case
initialise_sent =
    answers (table_of (direct_ipdu ∷ []) (sent_byte 0 0 0 5 3 ∷ sent_byte 0 8 0 0 0 ∷ sent_byte 0 16 0 1 0 ∷ internal_receiver 0 0 0 4 ∷ []))
    (ok start
    ∷ ok (initialise 0 265)
    ∷ ok (initialise 2 77)
    ∷ receive_gives 3 4
    ∷ tick_gives 0
    ∷ send_gives 0 265 0
    ∷ shows (send 1 1 area) 0 1 (0 ∷ []) (9 ∷ 1 ∷ 77 ∷ replicate 5 0)
    ∷ [])

-- ---- start and stop

-- start again while running: values, queues, overflow, marks, old, occurrence, wants, delay, periods, timers and bits as at the first start
abbrev start_again : Case
start_again =
    answers
    (table_of (send_ipdu 2 2 1 3 10 ∷ receive_ipdu 3 2 ∷ [])
    (sent_byte 0 0 0 5 3 ∷ sent_byte 0 8 0 0 0 ∷ object_bytes 2 1 255 0 8 0 0 1 14 0 2 0 ∷ received_byte 1 0 0 0 4 ∷ []))
    (ok start
    ∷ ok start_periodic
    ∷ send_gives 0 9 1
    ∷ confirm_good 0
    ∷ send_gives 1 77 0
    ∷ arrives 1 5
    ∷ arrives 1 6
    ∷ arrives 1 7
    ∷ ok start
    ∷ marks_give 0 0
    ∷ marks_give 3 0
    ∷ receive_gives 3 4
    ∷ tick_gives 0
    ∷ tick_gives 0
    ∷ marks_give 2 4
    ∷ refuses (status 2) 4
    ∷ send_gives 0 3 0
    ∷ shows (send 0 9 area) 0 1 (0 ∷ []) (9 ∷ replicate 7 0)
    ∷ arrives 1 8
    ∷ receive_gives 2 8
    ∷ [])

-- a stopped layer answers 7 to each of the other calls, start is never 7, and a request open before is not open after
abbrev stopped_layer : Case
stopped_layer =
    answers (table_of (direct_ipdu ∷ receive_ipdu 0 0 ∷ []) (sent_byte 0 0 0 0 0 ∷ received_byte 1 0 1 0 0 ∷ []))
    (ok start
    ∷ send_gives 0 5 1
    ∷ ok stop
    ∷ refuses stop 7
    ∷ refuses (send 0 6 area) 7
    ∷ refuses (initialise 0 6) 7
    ∷ refuses (receive 1) 7
    ∷ refuses (status 1) 7
    ∷ refuses (marks 0) 7
    ∷ refuses (clear_marks 0) 7
    ∷ refuses start_periodic 7
    ∷ refuses stop_periodic 7
    ∷ refuses (indication 1 true (1 ∷ 2 ∷ 3 ∷ 4 ∷ [])) 7
    ∷ refuses (confirm 0 true) 7
    ∷ refuses (tick area) 7
    ∷ ok start
    ∷ refuses (confirm 0 true) 8
    ∷ send_gives 0 5 1
    ∷ [])

abbrev pub send_rules : List Case
send_rules = bit_places ++ (last_ipdu ∷ neighbours ∷ big_order ∷ transfers ∷ pending_alone ∷ initialise_sent ∷ initialise_received ∷ [])

abbrev pub receive_rules : List Case
receive_rules = marks_received ∷ full_queue ∷ freed_places ∷ start_again ∷ stopped_layer ∷ []
