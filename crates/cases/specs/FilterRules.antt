-- Document 01, "Filters", with W-203's count: each filter on both sides of its boundary, what old and occurrence are, and who meets a
-- filter. Worked out from the documents. Assumes nothing.
use Rattle.std.specs.Prelude.{false, List, [], ◌∷◌}
use Rattle.layer.specs.Step.{start, initialise, receive}
use Rattle.cases.specs.Case.{line, Case, passing, counting, answers, pair, table_of, receive_ipdu, object_bytes}
use Rattle.cases.specs.Lines.{ok, refuses, send_gives, receive_gives, marks_give, arrives, confirm_good, direct_ipdu, internal_receiver}

-- ---- by number; old is 5

-- 0 passes always, 1 never
abbrev passes_always : Case
passes_always = passing false 0 0 0 5 0 (0 ∷ 5 ∷ 4294967295 ∷ []) (0 ∷ 5 ∷ 4294967295 ∷ [])

abbrev passes_never : Case
passes_never = passing false 1 0 0 5 0 (0 ∷ 5 ∷ 4294967295 ∷ []) []

-- 2: new & mask = x, mask being the first constant
abbrev masked_is_x : Case
masked_is_x = passing false 2 12 4 5 0 (0 ∷ 3 ∷ 4 ∷ 7 ∷ 8 ∷ 12 ∷ 20 ∷ []) (4 ∷ 7 ∷ 20 ∷ [])

-- 3: new & mask differs from x
abbrev masked_is_not_x : Case
masked_is_not_x = passing false 3 12 4 5 0 (0 ∷ 3 ∷ 4 ∷ 7 ∷ 8 ∷ 12 ∷ 20 ∷ []) (0 ∷ 3 ∷ 8 ∷ 12 ∷ [])

-- an x with a bit that mask lacks: 2 passes never, 3 always
abbrev outside_mask : Case
outside_mask = passing false 2 4 5 5 0 (0 ∷ 1 ∷ 4 ∷ 5 ∷ []) []

abbrev outside_mask_differs : Case
outside_mask_differs = passing false 3 4 5 5 0 (0 ∷ 1 ∷ 4 ∷ 5 ∷ []) (0 ∷ 1 ∷ 4 ∷ 5 ∷ [])

-- 4: new = old; 5: new differs from old
abbrev new_is_old : Case
new_is_old = passing false 4 0 0 5 0 (0 ∷ 4 ∷ 5 ∷ 6 ∷ 261 ∷ []) (5 ∷ [])

abbrev new_is_not_old : Case
new_is_not_old = passing false 5 0 0 5 0 (0 ∷ 4 ∷ 5 ∷ 6 ∷ 261 ∷ []) (0 ∷ 4 ∷ 6 ∷ 261 ∷ [])

-- 6: new & mask = old & mask; 7: differs. Of 5 the mask leaves 4
abbrev masked_is_old : Case
masked_is_old = passing false 6 12 0 5 0 (0 ∷ 4 ∷ 5 ∷ 7 ∷ 8 ∷ 12 ∷ 20 ∷ []) (4 ∷ 5 ∷ 7 ∷ 20 ∷ [])

abbrev masked_is_not_old : Case
masked_is_not_old = passing false 7 12 0 5 0 (0 ∷ 4 ∷ 5 ∷ 7 ∷ 8 ∷ 12 ∷ 20 ∷ []) (0 ∷ 8 ∷ 12 ∷ [])

-- 8: min ≤ new ≤ max, min being the first constant; 9: not so
abbrev inside_bounds : Case
inside_bounds = passing false 8 2 6 5 0 (0 ∷ 1 ∷ 2 ∷ 6 ∷ 7 ∷ 4294967295 ∷ []) (2 ∷ 6 ∷ [])

abbrev outside_bounds : Case
outside_bounds = passing false 9 2 6 5 0 (0 ∷ 1 ∷ 2 ∷ 6 ∷ 7 ∷ 4294967295 ∷ []) (0 ∷ 1 ∷ 7 ∷ 4294967295 ∷ [])

-- min above max is allowed: 8 passes never, 9 always
abbrev inside_min_above_max : Case
inside_min_above_max = passing false 8 6 2 5 0 (1 ∷ 2 ∷ 4 ∷ 6 ∷ 7 ∷ []) []

abbrev outside_min_above_max : Case
outside_min_above_max = passing false 9 6 2 5 0 (1 ∷ 2 ∷ 4 ∷ 6 ∷ 7 ∷ []) (1 ∷ 2 ∷ 4 ∷ 6 ∷ 7 ∷ [])

-- 10 to 13: new > old; ≤; <; ≥; values are unsigned
abbrev new_above_old : Case
new_above_old = passing false 10 0 0 5 0 (0 ∷ 4 ∷ 5 ∷ 6 ∷ 4294967295 ∷ []) (6 ∷ 4294967295 ∷ [])

abbrev new_not_above_old : Case
new_not_above_old = passing false 11 0 0 5 0 (0 ∷ 4 ∷ 5 ∷ 6 ∷ 4294967295 ∷ []) (0 ∷ 4 ∷ 5 ∷ [])

abbrev new_below_old : Case
new_below_old = passing false 12 0 0 5 0 (0 ∷ 4 ∷ 5 ∷ 6 ∷ 4294967295 ∷ []) (0 ∷ 4 ∷ [])

abbrev new_not_below_old : Case
new_not_below_old = passing false 13 0 0 5 0 (0 ∷ 4 ∷ 5 ∷ 6 ∷ 4294967295 ∷ []) (5 ∷ 6 ∷ 4294967295 ∷ [])

-- 14: occurrence mod period = offset, period being the first constant; period 3, offset 2 at occurrences 0, 1, 2, 5; the longest period at
-- its greatest count
abbrev not_its_turn : Case
not_its_turn = passing false 14 3 2 5 1 (5 ∷ []) []

abbrev its_turn : Case
its_turn = passing false 14 3 2 5 2 (5 ∷ []) (5 ∷ [])

abbrev turn_is_over : Case
turn_is_over = passing false 14 3 2 5 0 (5 ∷ []) []

-- the rule is of the remainder, for a count out of its range too
abbrev later_turn : Case
later_turn = passing false 14 3 2 5 5 (5 ∷ []) (5 ∷ [])

abbrev longest_period : Case
longest_period = passing false 14 255 254 5 254 (5 ∷ []) (5 ∷ [])

-- ---- old

-- old is the initial value first, and a dropped value does not set it; then the last value that passed
abbrev old_of_sender : Case
old_of_sender =
    answers (pair direct_ipdu (object_bytes 1 0 255 13 12 0 0 0 10 5 0 0))
    (ok start
    ∷ send_gives 0 4 0
    ∷ send_gives 0 5 0
    ∷ send_gives 0 7 1
    ∷ confirm_good 0
    ∷ send_gives 0 6 0
    ∷ send_gives 0 8 1
    ∷ [])

-- so also of receive objects: 0 has filter 10 and 1, in the same bits, filter 4
abbrev old_of_receivers : Case
old_of_receivers =
    answers (table_of (receive_ipdu 0 0 ∷ []) (object_bytes 2 0 255 0 8 0 0 0 10 5 0 0 ∷ object_bytes 2 0 255 0 8 0 0 4 4 5 0 0 ∷ []))
    (ok start
    ∷ arrives 0 4
    ∷ arrives 0 5
    ∷ receive_gives 0 5
    ∷ marks_give 0 0
    ∷ arrives 0 7
    ∷ arrives 0 6
    ∷ receive_gives 0 7
    ∷ receive_gives 1 5
    ∷ refuses (receive 1) 4
    ∷ [])

-- a sending filter judges the whole value: bit 20 of a 12-bit object
abbrev whole_value : Case
whole_value =
    answers (pair direct_ipdu (object_bytes 1 0 255 13 12 0 0 0 2 0 1048576 1048576))
    (ok start
    ∷ send_gives 0 4095 0
    ∷ send_gives 0 1048576 1
    ∷ [])

-- and old is the whole value: 4101 and 5 have the same 12 bits
abbrev whole_old : Case
whole_old =
    answers (pair direct_ipdu (object_bytes 1 0 255 13 12 0 0 0 5 5 0 0))
    (ok start
    ∷ send_gives 0 4101 1
    ∷ confirm_good 0
    ∷ send_gives 0 4101 0
    ∷ send_gives 0 5 1
    ∷ [])

-- a filter on the receiving side sees the message bits alone, and old is the initial value whole: 5 differs from 261
abbrev received_bits : Case
received_bits =
    answers (pair (receive_ipdu 0 0) (object_bytes 2 0 255 0 8 0 0 0 5 261 0 0))
    (ok start
    ∷ arrives 0 5
    ∷ marks_give 0 1
    ∷ [])

-- ---- occurrence: the count of filterings

-- it runs from 0 to the period less one and returns to 0; a period of 1 has 0 alone
abbrev count_of_three : Case
count_of_three = counting 14 3 1 (0 ∷ 1 ∷ 2 ∷ 0 ∷ 1 ∷ 2 ∷ 0 ∷ [])

abbrev count_of_one : Case
count_of_one = counting 14 1 0 (0 ∷ 0 ∷ 0 ∷ [])

-- with another filter it stays 0, whatever the constants
abbrev other_count : Case
other_count = counting 2 3 1 (0 ∷ 0 ∷ 0 ∷ [])

abbrev last_other_count : Case
last_other_count = counting 13 0 0 (0 ∷ 0 ∷ 0 ∷ [])

-- every filtering counts, a dropped one too; initialise leaves it: the second send has occurrence 1
abbrev occurrence_of_sender : Case
occurrence_of_sender =
    answers (pair direct_ipdu (object_bytes 1 0 255 13 12 0 0 0 14 0 2 0))
    (ok start
    ∷ send_gives 0 1 1
    ∷ confirm_good 0
    ∷ ok (initialise 0 2)
    ∷ send_gives 0 3 0
    ∷ send_gives 0 4 1
    ∷ [])

-- so also of a receive object, for a value that a full queue loses too; one that its filter drops there notes nothing
abbrev occurrence_of_receiver : Case
occurrence_of_receiver =
    answers (pair (receive_ipdu 0 0) (object_bytes 2 0 255 0 8 0 0 1 14 0 2 0))
    (ok start
    ∷ arrives 0 11
    ∷ arrives 0 12
    ∷ receive_gives 0 11
    ∷ arrives 0 13
    ∷ arrives 0 14
    ∷ arrives 0 15
    ∷ line (receive 0) 3 13
    ∷ ok (initialise 0 99)
    ∷ arrives 0 16
    ∷ refuses (receive 0) 4
    ∷ arrives 0 17
    ∷ receive_gives 0 17
    ∷ [])

-- ---- internal delivery

-- it meets no sending filter (1, never), passes the whole value, meets the receiver's filter and marks arrived: object 2 drops the value
-- and gets no mark; object 3 has another sending object, which has no I-PDU and makes no request
abbrev internal_delivery : Case
internal_delivery =
    answers
    (table_of (direct_ipdu ∷ [])
    (object_bytes 1 0 255 13 12 0 0 0 1 0 0 0 ∷ internal_receiver 0 0 0 0 ∷ internal_receiver 0 0 1 9 ∷ internal_receiver 4 0 0 8 ∷ object_bytes 1 255 255 0 32 0 0 0 0 0 0 0 ∷ []))
    (ok start
    ∷ send_gives 0 1048577 0
    ∷ receive_gives 1 1048577
    ∷ marks_give 1 1
    ∷ receive_gives 2 9
    ∷ marks_give 2 0
    ∷ receive_gives 3 8
    ∷ send_gives 4 6 0
    ∷ receive_gives 3 6
    ∷ receive_gives 1 1048577
    ∷ [])

abbrev pub filter_rules : List Case
filter_rules =
    passes_always ∷ passes_never ∷ masked_is_x ∷ masked_is_not_x ∷ outside_mask ∷ outside_mask_differs ∷ new_is_old ∷ new_is_not_old ∷ masked_is_old ∷ masked_is_not_old
    ∷ inside_bounds ∷ outside_bounds ∷ inside_min_above_max ∷ outside_min_above_max ∷ new_above_old ∷ new_not_above_old ∷ new_below_old ∷ new_not_below_old
    ∷ not_its_turn ∷ its_turn ∷ turn_is_over ∷ later_turn ∷ longest_period
    ∷ old_of_sender ∷ old_of_receivers ∷ whole_value ∷ whole_old ∷ received_bits ∷ count_of_three ∷ count_of_one ∷ other_count ∷ last_other_count
    ∷ occurrence_of_sender ∷ occurrence_of_receiver ∷ internal_delivery ∷ []
