-- Document 01, "What comes back": the numbers of refusals and their order. Worked out from the document.
-- Assumes nothing.
use Rattle.std.specs.Prelude.{true, false, List, [], ◌∷◌, replicate}
use Rattle.layer.specs.Step.{start, stop, send, initialise, receive, status, marks, clear_marks, start_periodic, stop_periodic, indication, confirm, tick}
use Rattle.cases.specs.Case.{shows, Case, answers, pair, table_of, receive_ipdu, object_bytes, area}
use Rattle.cases.specs.Lines.{ok, refuses, send_gives, marks_give, receive_gives, confirm_good, direct_ipdu, sent_byte, received_byte}

-- 5, with 0, to every call over a wrong table (an object of kind 3), before 6 (a short area), 1 and 2
abbrev table_first : Case
table_first =
    answers (pair direct_ipdu (object_bytes 3 0 255 0 8 0 0 0 0 0 0 0))
    (refuses start 5
    ∷ refuses stop 5
    ∷ refuses (send 0 5 []) 5
    ∷ refuses (initialise 0 5) 5
    ∷ refuses (receive 0) 5
    ∷ refuses (status 0) 5
    ∷ refuses (marks 9) 5
    ∷ refuses (clear_marks 0) 5
    ∷ refuses start_periodic 5
    ∷ refuses stop_periodic 5
    ∷ refuses (indication 0 true []) 5
    ∷ refuses (confirm 0 true) 5
    ∷ refuses (tick []) 5
    ∷ [])

-- 6 for a stored number out of its range: memory that was never started; start looks at none
abbrev out_of_range : Case
out_of_range =
    answers (pair direct_ipdu (sent_byte 0 0 0 0 0))
    (refuses (marks 0) 6
    ∷ refuses stop 6
    ∷ refuses (send 0 5 area) 6
    ∷ ok start
    ∷ ok (marks 0)
    ∷ [])

-- 6 for an area under 256 bytes, before 1 and 7, and the area stays as found; one of 257 is long enough; 7 before 1, 2 and 8
abbrev short_area : Case
short_area =
    answers (table_of (direct_ipdu ∷ receive_ipdu 0 0 ∷ []) (sent_byte 0 0 0 0 0 ∷ received_byte 1 0 0 0 0 ∷ []))
    (ok start
    ∷ shows (send 0 5 (replicate 255 170)) 6 0 (0 ∷ []) (replicate 8 170)
    ∷ refuses (send 9 5 (replicate 255 170)) 6
    ∷ refuses (tick (replicate 255 170)) 6
    ∷ shows (send 0 5 (replicate 257 170)) 0 1 (0 ∷ []) (5 ∷ replicate 7 0)
    ∷ confirm_good 0
    ∷ ok stop
    ∷ refuses (send 0 5 (replicate 255 170)) 6
    ∷ refuses (tick []) 6
    ∷ refuses (send 9 5 area) 7
    ∷ refuses (marks 9) 7
    ∷ refuses (indication 1 true []) 7
    ∷ refuses (confirm 0 true) 7
    ∷ [])

-- 1 for an object's number that is too large, compared whole (256 is not 0), and for the wrong kind; nothing changes and the area stays
abbrev wrong_object_numbers : Case
wrong_object_numbers =
    answers (table_of (direct_ipdu ∷ receive_ipdu 0 0 ∷ []) (sent_byte 0 0 0 0 0 ∷ received_byte 1 0 0 0 7 ∷ received_byte 1 0 1 0 0 ∷ []))
    (ok start
    ∷ shows (send 1 5 area) 1 0 (0 ∷ 1 ∷ []) (replicate 16 170)
    ∷ refuses (send 3 5 area) 1
    ∷ refuses (send 256 5 area) 1
    ∷ refuses (initialise 3 5) 1
    ∷ refuses (initialise 257 5) 1
    ∷ refuses (receive 0) 1
    ∷ refuses (receive 3) 1
    ∷ refuses (receive 257) 1
    ∷ refuses (status 0) 1
    ∷ refuses (status 1) 1
    ∷ refuses (status 2) 4
    ∷ refuses (status 3) 1
    ∷ refuses (status 258) 1
    ∷ refuses (marks 3) 1
    ∷ refuses (marks 256) 1
    ∷ refuses (clear_marks 3) 1
    ∷ refuses (clear_marks 256) 1
    ∷ receive_gives 1 7
    ∷ [])

-- 1 for an I-PDU's number that is too large or the wrong direction, good or not, before 2 and 8; 2 for a good indication whose length is
-- not L; nothing changes
abbrev wrong_ipdu_numbers : Case
wrong_ipdu_numbers =
    answers (table_of (direct_ipdu ∷ receive_ipdu 0 0 ∷ []) (sent_byte 0 0 0 0 0 ∷ received_byte 1 0 0 0 7 ∷ []))
    (ok start
    ∷ refuses (indication 0 true (1 ∷ 2 ∷ 3 ∷ 4 ∷ [])) 1
    ∷ refuses (indication 0 true []) 1
    ∷ refuses (indication 0 false []) 1
    ∷ refuses (indication 2 true []) 1
    ∷ refuses (indication 257 true (1 ∷ 2 ∷ 3 ∷ 4 ∷ [])) 1
    ∷ refuses (confirm 1 true) 1
    ∷ refuses (confirm 2 false) 1
    ∷ refuses (indication 1 true []) 2
    ∷ refuses (indication 1 true (1 ∷ 2 ∷ 3 ∷ [])) 2
    ∷ refuses (indication 1 true (1 ∷ 2 ∷ 3 ∷ 4 ∷ 5 ∷ [])) 2
    ∷ receive_gives 1 7
    ∷ marks_give 1 0
    ∷ send_gives 0 5 1
    ∷ refuses (confirm 256 true) 1
    ∷ confirm_good 0
    ∷ [])

abbrev pub answer_rules : List Case
answer_rules = table_first ∷ out_of_range ∷ short_area ∷ wrong_object_numbers ∷ wrong_ipdu_numbers ∷ []
