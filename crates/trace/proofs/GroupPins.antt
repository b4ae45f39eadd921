-- The claims say something of groups: from the theorems themselves come a frame bit of a group that is 1, equal statuses and frames of
-- two groups, and bytes that a refused group leaves. A weaker claim does not have these.
-- Assumes nothing.
use Rattle.std.proofs.Common.{true, false, List, [], ◌∷◌, inl, inr, ◌≡◌, refl, ap, ap₂, ◌∙◌, ℕ, arith, eq-eqb, eqb-true, eqb}
use Rattle.memory.specs.Bytes.{value, bytes_of, part, number_at}
use Rattle.memory.proofs.Tests.{true_not_false}
use Rattle.bits.specs.Bits.{bit, frame_bit, place, owns}
use Rattle.memory.specs.Integers.{integer, less_than}
use Rattle.filter.specs.Filters.{passes, filter_of}
use Rattle.table.specs.Records.{counts, ipdu_record, object_record}
use Rattle.calls.specs.Answers.{number_of, value_of}
use Rattle.layer.specs.Step.{start, send, step, run}
use Rattle.group.specs.Pairs.{pair, pair_at, in_bytes, in_records}
use Rattle.group.specs.Groups.{Group, group_of, send_each, group_step}
use Rattle.cases.proofs.Definitions.{definitions}
use Rattle.trace.specs.Book.{unopened, advance}
use Rattle.trace.specs.Actions.{single, group, group_sends}
use Rattle.trace.specs.Demand3 as claim
use Rattle.trace.specs.Demand3.{ActionsTyped, words_joined, same, areas, dropped, alike_calls, alike_groups, ActionsAlike}
use Rattle.trace.proofs.FramesInArea.{in_area_none}
use Rattle.trace.proofs.Refusals.{refused_group_leaves, never_6}
use Rattle.trace.proofs.Demand3.{demand_3}
use Rattle.trace.proofs.Pins.{none, table, bytes, here, there, m, n, started_m, started_n}

-- ---- two groups: a value that is kept, then one that the filter drops

abbrev g : Group
g = group_of (in_records (pair 0 2748 ∷ pair 0 3 ∷ [])) here (7 ∷ 7 ∷ [])

abbrev h : Group
h = group_of (in_records (pair 0 2748 ∷ pair 0 4 ∷ [])) there (9 ∷ 9 ∷ [])

typed : ActionsTyped (group g ∷ [])
typed = (((omega arith, none), ((omega arith, none), tt)), tt)

typed_h : ActionsTyped (group h ∷ [])
typed_h = (((omega arith, none), ((omega arith, none), tt)), tt)

pub groups_alike : ActionsAlike table (counts table) unopened unopened (single start ∷ group g ∷ []) (single start ∷ group h ∷ [])
unfolding value bytes_of part number_at integer less_than passes filter_of counts object_record advance
groups_alike = (
  alike_calls start start refl refl (same refl),
  (
    alike_groups g h refl refl (record { area = refl; statuses = refl; whole = refl })
        (areas 0 2748 here there refl refl refl, (dropped 0 3 4 here there refl refl refl refl refl refl, tt)),
    tt,
  ),
)

both : claim.ActionsKept table (counts table) unopened (single start ∷ group g ∷ []) m
    × (ActionsAlike table (counts table) unopened unopened (single start ∷ group g ∷ []) (single start ∷ group h ∷ [])
    → claim.ActionsSame table (single start ∷ group g ∷ []) (single start ∷ group h ∷ []) m n)
both = demand_3 table bytes (group g ∷ []) (group h ∷ []) typed typed_h m n started_m started_n

-- memory after the start
abbrev begun : List ℕ
begun = (step table start m).memory

-- the group is done
pub group_done : eqb (number_of (group_step table g begun).answer) 0 ≡ true
unfolding advance
group_done = both.0.1.0.judged

-- its word is that of I-PDU 0; its second send asks for nothing
group_words : (value_of (group_step table g begun).answer ≡ 1) × (value_of (step table (send 0 3 here) (step table (send 0 2748 here) begun).memory).answer ≡ 0)
unfolding definitions send_each group_step
group_words = (refl, refl)

asked : claim.Names (value_of (group_step table g begun).answer) 0
unfolding bit
asked = rw group_words.0

first_bit : claim.Names (value_of (step table (send 0 2748 here) begun).answer) 0
    → frame_bit (claim.frame table 0 (step table (send 0 2748 here) begun).area) 24 ≡ 1
unfolding value bytes_of part number_at bit place owns integer less_than passes filter_of counts ipdu_record object_record advance
first_bit e = (both.0.1.0.sends refl).0.bits 0 e 24 (omega arith)

-- bit 24 of the frame that the group hands over is 1 (case 1: 00 80 57 01)
pub group_frame : frame_bit (claim.frame table 0 (group_step table g begun).area) 24 ≡ 1
group_frame = by (both.0.1.0.frames 0 asked)
  where
    by : claim.HandedOver table 0 (claim.frame table 0 (group_step table g begun).area) (run table (group_sends g) begun)
        → frame_bit (claim.frame table 0 (group_step table g begun).area) 24 ≡ 1
    by (inl (inl z)) = absurd z
    by (inl (inr z)) = absurd (in_area_none 0 (rw group_words.1 at z.0))
    by (inr z) = ap (λ (f : List ℕ). frame_bit f 24) z.1 ∙ first_bit z.0

-- both its sends are done, and so its statuses are 0 and 0
pub group_statuses : (group_step table g begun).statuses ≡ 0 ∷ 0 ∷ []
unfolding value bytes_of part number_at integer less_than passes filter_of counts object_record advance
group_statuses =
    let sends = both.0.1.0.sends refl in
    let first = eqb-true (number_of (step table (send 0 2748 here) begun).answer) 0 sends.0.judged in
    let second = eqb-true (number_of (step table (send 0 3 here) (step table (send 0 2748 here) begun).memory).answer) 0 sends.1.0.judged in
    both.0.1.0.statuses refl ∙ ap₂ (λ (a b : ℕ). a ∷ b ∷ []) first second

-- its word has the bit of each send that asks
pub group_word : value_of (group_step table g begun).answer
    ≡ words_joined 0 (step table (send 0 2748 here) begun ∷ step table (send 0 3 here) (step table (send 0 2748 here) begun).memory ∷ [])
unfolding advance
group_word = both.0.1.0.word refl

-- the other group, from other memory, area and status list, has the same statuses and frame
pub same_statuses : (group_step table g begun).statuses ≡ (group_step table h (step table start n).memory).statuses
same_statuses = (both.1 groups_alike).1.0.statuses (eqb-true (number_of (group_step table g begun).answer) 0 group_done)

pub same_group_frame : claim.frame table 0 (group_step table g begun).area ≡ claim.frame table 0 (group_step table h (step table start n).memory).area
same_group_frame = (both.1 groups_alike).1.0.frames 0 asked

-- ---- a group with a pair cut off

-- a whole pair, and a byte of another
abbrev cut : Group
cut = group_of (in_bytes (0 ∷ 1 ∷ 0 ∷ 0 ∷ 0 ∷ 0 ∷ [])) here (7 ∷ [])

typed_cut : ActionsTyped (group cut ∷ [])
unfolding pair_at number_at part value
typed_cut = (((omega arith, none), tt), tt)

pub cut_refused : eqb (number_of (group_step table cut begun).answer) 0 ≡ false
unfolding advance
cut_refused = (demand_3 table bytes (group cut ∷ []) [] typed_cut tt m m started_m started_m).0.1.0.judged

-- its status list, memory and area stay
pub cut_leaves : ((group_step table cut begun).statuses ≡ 7 ∷ []) × ((group_step table cut begun).memory ≡ begun) × ((group_step table cut begun).area ≡ here)
cut_leaves =
    let u = refused_group_leaves table cut begun (λ e. true_not_false (eq-eqb (number_of (group_step table cut begun).answer) 0 e) cut_refused) in
    (u.statuses, u.memory, u.area)

-- and it answers no 6
pub cut_not_6 : number_of (group_step table cut begun).answer ≡ 6 → ⊥
cut_not_6 = (never_6 table bytes (group cut ∷ []) typed_cut m started_m).0 refl
