-- Document 01's cases 1 to 11. Cases 6 and 9 also show the bytes handed over, and a slot that stays.
-- Assumes nothing.
use Rattle.std.specs.Prelude.{true, false, List, [], ◌∷◌, ◌++◌, replicate}
use Rattle.bits.specs.declared.Order.TheVariants.{Little, Big}
use Rattle.layer.specs.Step.{start, stop, send, receive, status, marks, clear_marks, start_periodic, indication, confirm, tick}
use Rattle.cases.specs.Case.{line, shows, Case, packs, fits, answers, pair, send_ipdu, receive_ipdu, send_object, receive_object, area}

-- 6: "new differs from old" over 0, 5, 5, 0 from an initial 0 lets two through. Each makes a request; the first is confirmed.
abbrev pub case6 : Case
case6 =
    answers (pair (send_ipdu 0 0 0 0 10) (send_object 5 0 0))
    (line start 0 0
    ∷ line (send 0 0 area) 0 0
    ∷ shows (send 0 5 area) 0 1 (0 ∷ 1 ∷ []) ((0x00 ∷ 0xA0 ∷ []) ++ replicate 6 0 ++ replicate 8 170)
    ∷ line (confirm 0 true) 0 0
    ∷ shows (send 0 5 area) 0 0 (0 ∷ []) (replicate 8 170)
    ∷ shows (send 0 0 area) 0 1 (0 ∷ 31 ∷ []) (replicate 8 0 ++ replicate 8 170)
    ∷ [])

-- 7: one in three, from the second of six on
abbrev pub case7 : Case
case7 =
    answers (pair (send_ipdu 0 0 0 0 10) (send_object 14 3 1))
    (line start 0 0
    ∷ line (send 0 1 area) 0 0
    ∷ line (send 0 2 area) 0 1
    ∷ line (confirm 0 true) 0 0
    ∷ line (send 0 3 area) 0 0
    ∷ line (send 0 4 area) 0 0
    ∷ line (send 0 5 area) 0 1
    ∷ line (confirm 0 true) 0 0
    ∷ line (send 0 6 area) 0 0
    ∷ [])

-- 8: three arrivals for a queue of two (from bit 13 on): the first comes out with 3, the second with 0, then it is empty. Before that status answers 3, and
-- clear marks clears the mark of arrival and not the overflow.
abbrev pub case8 : Case
case8 =
    answers (pair (receive_ipdu 0 0) (receive_object 2))
    (line start 0 0
    ∷ line (indication 0 true (0 ∷ 224 ∷ 0 ∷ 0 ∷ [])) 0 0
    ∷ line (indication 0 true (0 ∷ 0 ∷ 1 ∷ 0 ∷ [])) 0 0
    ∷ line (indication 0 true (0 ∷ 32 ∷ 1 ∷ 0 ∷ [])) 0 0
    ∷ line (status 0) 3 0
    ∷ line (marks 0) 0 1
    ∷ line (clear_marks 0) 0 0
    ∷ line (marks 0) 0 0
    ∷ line (receive 0) 3 7
    ∷ line (receive 0) 0 8
    ∷ line (receive 0) 4 0
    ∷ [])

-- 9: a minimum delay of 3 after a good confirm: the send in it is requested by tick 3. A tick with too short an area is none.
abbrev pub case9 : Case
case9 =
    answers (pair (send_ipdu 0 0 0 3 10) (send_object 0 0 0))
    (line start 0 0
    ∷ line (send 0 5 area) 0 1
    ∷ line (confirm 0 true) 0 0
    ∷ line (send 0 6 area) 0 0
    ∷ shows (tick area) 0 0 (0 ∷ []) (replicate 8 170)
    ∷ line (tick []) 6 0
    ∷ line (tick area) 0 0
    ∷ shows (tick area) 0 1 (0 ∷ 1 ∷ []) ((0x00 ∷ 0xC0 ∷ []) ++ replicate 6 0 ++ replicate 8 170)
    ∷ [])

-- 10: a deadline of 2 that nothing confirms: tick 2 requests the send that waits, with send error (8) marked. A stopped layer answers 7.
abbrev pub case10 : Case
case10 =
    answers (pair (send_ipdu 0 0 0 0 2) (send_object 0 0 0))
    (line start 0 0
    ∷ line (send 0 5 area) 0 1
    ∷ line (send 0 6 area) 0 0
    ∷ line (tick area) 0 0
    ∷ line (tick area) 0 1
    ∷ line (marks 0) 0 8
    ∷ line stop 0 0
    ∷ line (marks 0) 7 0
    ∷ [])

-- 11: a period of 4 that begins 2 ticks after start periodic
abbrev pub case11 : Case
case11 =
    answers (pair (send_ipdu 1 4 2 0 20) (send_object 0 0 0))
    (line start 0 0
    ∷ line start_periodic 0 0
    ∷ line (tick area) 0 0
    ∷ line (tick area) 0 1
    ∷ line (tick area) 0 0
    ∷ line (tick area) 0 0
    ∷ line (tick area) 0 0
    ∷ line (tick area) 0 1
    ∷ line (tick area) 0 0
    ∷ line (tick area) 0 0
    ∷ line (tick area) 0 0
    ∷ line (tick area) 0 1
    ∷ [])

abbrev pub document_cases : List Case
document_cases =
    -- 1 to 3
    packs Little false 13 12 2748 4 (0x00 ∷ 0x80 ∷ 0x57 ∷ 0x01 ∷ []) 2748
    ∷ packs Big false 18 12 2748 4 (0x00 ∷ 0x2A ∷ 0xF0 ∷ 0x00 ∷ []) 2748
    ∷ packs Little false 13 12 6844 4 (0x00 ∷ 0x80 ∷ 0x57 ∷ 0x01 ∷ []) 2748
    -- 4, 5
    ∷ fits Big 18 22 4 true
    ∷ fits Big 18 23 4 false
    ∷ fits Little 13 27 5 true
    ∷ fits Little 13 28 5 false
    ∷ case6
    ∷ case7
    ∷ case8
    ∷ case9
    ∷ case10
    ∷ case11
    ∷ []
