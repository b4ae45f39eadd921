-- Document 01, "Calls", the rules of time: requests, minimum delay, deadlines, periods, receive timers. Worked out from the document.
-- Assumes nothing.
use Rattle.std.specs.Prelude.{true, false, List, [], ◌∷◌, ◌++◌, replicate}
use Rattle.layer.specs.Step.{start, send, clear_marks, start_periodic, stop_periodic, confirm, tick}
use Rattle.cases.specs.Case.{shows, Case, answers, pair, table_of, send_ipdu, receive_ipdu, ipdu_bytes, area}
use Rattle.cases.specs.Lines.{ok, refuses, send_gives, tick_gives, marks_give, arrives, arrives_wrong, confirm_good, confirm_not_good, direct_ipdu, sent_byte, received_byte}

-- ---- confirm and minimum delay: direct, M 2

-- confirm is 8 with nothing open; it closes and makes no request; not good sets the delay to 0, so the next tick makes the one that waits;
-- good sets the delay to M: sends are postponed to the second tick, several give one request, with the latest bytes
abbrev confirm_and_delay : Case
confirm_and_delay =
    answers (pair (send_ipdu 0 0 0 2 10) (sent_byte 0 0 0 0 0))
    (ok start
    ∷ refuses (confirm 0 true) 8
    ∷ refuses (confirm 0 false) 8
    ∷ marks_give 0 0
    ∷ send_gives 0 5 1
    ∷ send_gives 0 6 0
    ∷ confirm_not_good 0
    ∷ refuses (confirm 0 true) 8
    ∷ tick_gives 1
    ∷ confirm_good 0
    ∷ send_gives 0 7 0
    ∷ send_gives 0 8 0
    ∷ tick_gives 0
    ∷ shows (tick area) 0 1 (0 ∷ []) (8 ∷ replicate 7 0)
    ∷ confirm_good 0
    -- a delay falls with nothing wanted, and the send after it is made at once
    ∷ tick_gives 0
    ∷ tick_gives 0
    ∷ send_gives 0 9 1
    ∷ [])

-- ---- send deadline

-- D 2: at the second tick the request closes, send error is marked on every object, and the delay is 0, not M
abbrev send_deadline : Case
send_deadline =
    answers (table_of (send_ipdu 0 0 0 3 2 ∷ []) (sent_byte 0 0 0 0 0 ∷ sent_byte 0 8 1 0 0 ∷ []))
    (ok start
    ∷ send_gives 0 5 1
    ∷ tick_gives 0
    ∷ marks_give 1 0
    ∷ tick_gives 0
    ∷ marks_give 0 8
    ∷ marks_give 1 8
    ∷ refuses (confirm 0 true) 8
    ∷ send_gives 0 6 1
    ∷ [])

-- D 1: a waiting request is made in the tick that closes the open one, and its deadline falls first at the next tick
abbrev closed_and_made : Case
closed_and_made =
    answers (pair (send_ipdu 0 0 0 0 1) (sent_byte 0 0 0 0 0))
    (ok start
    ∷ send_gives 0 5 1
    ∷ send_gives 0 6 0
    ∷ tick_gives 1
    ∷ marks_give 0 8
    ∷ confirm_good 0
    ∷ [])

-- ---- periods

-- start periodic sets the countdown to the offset, running or not; at 0 it becomes P; stop periodic halts it; none runs before
abbrev restarted : Case
restarted =
    answers (pair (send_ipdu 1 3 2 0 20) (sent_byte 0 0 0 0 0))
    (ok start
    ∷ tick_gives 0
    ∷ tick_gives 0
    ∷ ok start_periodic
    ∷ tick_gives 0
    ∷ ok start_periodic
    ∷ tick_gives 0
    ∷ tick_gives 1
    ∷ ok stop_periodic
    ∷ tick_gives 0
    ∷ tick_gives 0
    ∷ tick_gives 0
    ∷ ok start_periodic
    ∷ tick_gives 0
    ∷ tick_gives 1
    ∷ [])

-- mode 0 has no countdown
abbrev direct_has_none : Case
direct_has_none =
    answers (pair direct_ipdu (sent_byte 0 0 0 0 0))
    (ok start
    ∷ ok start_periodic
    ∷ tick_gives 0
    ∷ tick_gives 0
    ∷ [])

-- mode 1, P 2, D 3: a triggered send makes no request; the period requests again while one is open, and the deadline runs on: send error
-- at the third tick after the first request
abbrev deadline_runs_on : Case
deadline_runs_on =
    answers (pair (send_ipdu 1 2 1 0 3) (sent_byte 0 0 0 0 0))
    (ok start
    ∷ send_gives 0 5 0
    ∷ tick_gives 0
    ∷ ok start_periodic
    ∷ tick_gives 1
    ∷ tick_gives 0
    ∷ tick_gives 1
    ∷ marks_give 0 0
    ∷ tick_gives 0
    ∷ marks_give 0 8
    ∷ refuses (confirm 0 true) 8
    ∷ tick_gives 1
    ∷ [])

-- mode 2, P 9, offset 1, M 2: a triggered send makes a request; the period's is postponed while that is open, stays when periods are
-- stopped, and waits for the delay
abbrev mixed_postponed : Case
mixed_postponed =
    answers (pair (send_ipdu 2 9 1 2 10) (sent_byte 0 0 0 0 0))
    (ok start
    ∷ send_gives 0 5 1
    ∷ ok start_periodic
    ∷ tick_gives 0
    ∷ ok stop_periodic
    ∷ confirm_good 0
    ∷ tick_gives 0
    ∷ tick_gives 1
    ∷ confirm_good 0
    ∷ tick_gives 0
    ∷ tick_gives 0
    ∷ [])

-- mode 2, P 9, offset 1, M 2: the period's request is postponed by the delay alone
abbrev mixed_delayed : Case
mixed_delayed =
    answers (pair (send_ipdu 2 9 1 2 10) (sent_byte 0 0 0 0 0))
    (ok start
    ∷ send_gives 0 5 1
    ∷ confirm_good 0
    ∷ ok start_periodic
    ∷ tick_gives 0
    ∷ tick_gives 1
    ∷ [])

-- mode 2: a postponed request is not forgotten when the period fires, nor when periods are started again; the two give one
abbrev fires_over_postponed : Case
fires_over_postponed =
    answers (pair (send_ipdu 2 2 1 0 10) (sent_byte 0 0 0 0 0))
    (ok start
    ∷ send_gives 0 5 1
    ∷ send_gives 0 6 0
    ∷ ok start_periodic
    ∷ tick_gives 0
    ∷ ok start_periodic
    ∷ ok stop_periodic
    ∷ confirm_good 0
    ∷ shows (tick area) 0 1 (0 ∷ []) (6 ∷ replicate 7 0)
    ∷ confirm_good 0
    ∷ tick_gives 0
    ∷ [])

-- ---- several I-PDUs: the word names exactly those requested, their slots have their bytes with zeros to 8, other slots stay

-- I-PDU 0 is periodic (P 2, offset 1), 1 mixed (P 9, offset 2), 2 periodic (P 3, offset 1, L 2)
abbrev several_ipdus : Case
several_ipdus =
    answers
    (table_of (send_ipdu 1 2 1 0 10 ∷ send_ipdu 2 9 2 0 10 ∷ ipdu_bytes 1 2 1 3 1 0 10 0 ∷ []) (sent_byte 0 0 0 0 17 ∷ sent_byte 1 24 0 0 0 ∷ sent_byte 2 8 0 0 51 ∷ []))
    (ok start
    ∷ shows (send 1 34 area) 0 2 (0 ∷ 1 ∷ 2 ∷ []) (replicate 8 170 ++ (0 ∷ 0 ∷ 0 ∷ 34 ∷ replicate 4 0) ++ replicate 8 170)
    ∷ ok start_periodic
    ∷ shows (tick area) 0 5 (0 ∷ 1 ∷ 2 ∷ 3 ∷ []) ((17 ∷ replicate 7 0) ++ replicate 8 170 ++ (0 ∷ 51 ∷ replicate 6 0) ++ replicate 8 170)
    -- the mixed one waits for its confirm; the confirm of one I-PDU leaves the others'
    ∷ tick_gives 0
    ∷ confirm_good 1
    ∷ tick_gives 3
    ∷ tick_gives 4
    -- one confirm closes what was requested twice
    ∷ confirm_good 0
    ∷ refuses (confirm 0 true) 8
    ∷ confirm_good 2
    ∷ tick_gives 1
    ∷ [])

-- ---- receive timers

-- I-PDU 0 has R 2 and F 3, 1 has R 3 alone, 2 neither: the timer is F first, then R; at the tick that it reaches 0 it becomes R and the
-- I-PDU's objects get receive error; an indication that is not good leaves it
abbrev timers : Case
timers =
    answers (table_of (receive_ipdu 2 3 ∷ receive_ipdu 3 0 ∷ receive_ipdu 0 0 ∷ []) (received_byte 0 0 0 0 0 ∷ received_byte 0 0 1 0 0 ∷ received_byte 1 0 0 0 0 ∷ received_byte 2 0 0 0 0 ∷ []))
    (ok start
    ∷ arrives 2 5
    ∷ tick_gives 0
    ∷ tick_gives 0
    ∷ marks_give 0 0
    ∷ arrives_wrong 0
    ∷ ok (clear_marks 0)
    ∷ ok (clear_marks 1)
    ∷ tick_gives 0
    ∷ marks_give 0 4
    ∷ marks_give 1 4
    ∷ marks_give 2 4
    ∷ marks_give 3 1
    ∷ ok (clear_marks 0)
    ∷ tick_gives 0
    ∷ marks_give 0 0
    ∷ tick_gives 0
    ∷ marks_give 0 4
    ∷ [])

-- R 3, F 2: a good indication sets the timer to R, also during F, and again later
abbrev timer_set_anew : Case
timer_set_anew =
    answers (pair (receive_ipdu 3 2) (received_byte 0 0 0 0 0))
    (ok start
    ∷ tick_gives 0
    ∷ arrives 0 5
    ∷ tick_gives 0
    ∷ tick_gives 0
    ∷ arrives 0 6
    ∷ tick_gives 0
    ∷ tick_gives 0
    ∷ marks_give 0 1
    ∷ tick_gives 0
    ∷ marks_give 0 5
    ∷ [])

abbrev pub request_rules : List Case
request_rules = confirm_and_delay ∷ send_deadline ∷ closed_and_made ∷ mixed_postponed ∷ mixed_delayed ∷ fires_over_postponed ∷ []

abbrev pub timing_rules : List Case
timing_rules = restarted ∷ direct_has_none ∷ deadline_runs_on ∷ several_ipdus ∷ timers ∷ timer_set_anew ∷ []
