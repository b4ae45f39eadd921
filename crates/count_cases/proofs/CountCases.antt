-- The examples of W-203, proved by computation from the definitions: one round of three filterings leaves memory as it was, and so do 100.
-- From the theorems what they say of these lists; a weaker claim does not have it.
-- Assumes nothing.
use Rattle.std.proofs.Common.{Bool, true, false, List, [], ◌∷◌, ◌++◌, append_assoc, ◌≡◌, refl, sym, ap, ◌∙◌, ℕ, zero, suc, ◌<◌, arith, length, replicate}
use Rattle.memory.specs.Bytes.{Bytes, bytes_of}
use Rattle.memory.proofs.Tests.{true_not_false}
use Rattle.state.specs.declared.ObjectState.{ObjectState}
use Rattle.state.specs.Layout.{memory_size, object_state}
use Rattle.group.specs.Groups.{send_each, group_step}
use Rattle.layer.specs.Admission.{working_memory}
use Rattle.layer.specs.Step.{start, send, step}
use Rattle.cases.specs.Case.{area}
use Rattle.cases.proofs.Definitions.{definitions, ◌&◌}
use Rattle.script.specs.Reading.{same}
use Rattle.script.proofs.CharacterLists.{same_equal}
use Rattle.trace.specs.Actions.{Action, single, asks_running, leaves, memory_after_all}
use Rattle.trace.specs.Demand3.{ActionsTyped, done}
use Rattle.trace.specs.Filterings.{action_filters, filterings, CallFilters, passed, NoStart, Fourteen, turns}
use Rattle.memory.proofs.Tests.{tested}
use Rattle.trace.proofs.Pins.{none}
use Rattle.trace.proofs.StepFilters.{all_filter}
use Rattle.trace.proofs.OneInN.{one_in_n, in_turn}
use Rattle.count_cases.specs.CountCases.{table, begun, round, rounds, Filters300, count_ranges}

-- ---- one round

-- by a computed test
returns : same (memory_after_all table round begun) begun ≡ true
unfolding definitions send_each group_step
returns = refl

sent : filterings table 0 round begun ≡ true ∷ false ∷ false ∷ []
unfolding definitions send_each group_step
sent = refl

inside : filterings table 1 round begun ≡ false ∷ true ∷ false ∷ []
unfolding definitions send_each group_step
inside = refl

received : filterings table 2 round begun ≡ false ∷ false ∷ true ∷ []
unfolding definitions send_each group_step
received = refl

-- ---- 100 rounds

filterings_then : (t : List ℕ) (i : ℕ) (xs ys : List Action) (m : List ℕ) → filterings t i (xs ++ ys) m ≡ filterings t i xs m ++ filterings t i ys (memory_after_all t xs m)
filterings_then t i [] ys m = refl
filterings_then t i (x ∷ xs) ys m =
    ap (λ (fs : List Bool). action_filters t i x m ++ fs) (filterings_then t i xs ys (leaves t x m))
    ∙ sym (append_assoc (action_filters t i x m) (filterings t i xs (leaves t x m)) (filterings t i ys (memory_after_all t xs (leaves t x m))))

abbrev repeated : ℕ → List Bool → List Bool
repeated zero fs = []
repeated (suc n) fs = fs ++ repeated n fs

all_rounds : (i : ℕ) (fs : List Bool) → filterings table i round begun ≡ fs → (n : ℕ) → filterings table i (rounds n) begun ≡ repeated n fs
all_rounds i fs e zero = refl
all_rounds i fs e (suc n) =
    filterings_then table i round (rounds n) begun
    ∙ rw (same_equal (memory_after_all table round begun) begun returns, e, all_rounds i fs e n)

-- the request's own example: with offset 0 the 256th passes and the 257th does not
pub sent_300 : Filters300 0 (false ∷ true ∷ false ∷ false ∷ [])
sent_300 = let e = all_rounds 0 (true ∷ false ∷ false ∷ []) sent 100 in record { many = rw e; passing = rw e; late = rw e }

pub inside_300 : Filters300 1 (false ∷ false ∷ true ∷ false ∷ [])
inside_300 = let e = all_rounds 1 (false ∷ true ∷ false ∷ []) inside 100 in record { many = rw e; passing = rw e; late = rw e }

pub received_300 : Filters300 2 (true ∷ false ∷ false ∷ true ∷ [])
received_300 = let e = all_rounds 2 (false ∷ false ∷ true ∷ []) received 100 in record { many = rw e; passing = rw e; late = rw e }

-- ---- stored counts

pub count_ranges_lem : count_ranges ≡ 0 ∷ 6 ∷ 0 ∷ 6 ∷ 0 ∷ 6 ∷ []
unfolding definitions
count_ranges_lem = refl

-- ---- the claims of these lists, each premise proved

bytes : Bytes table
unfolding bytes_of
bytes = tested table refl

started : done (step table start (replicate memory_size 165)) ≡ true
unfolding definitions
started = refl

typed_then : (xs ys : List Action) → ActionsTyped xs → ActionsTyped ys → ActionsTyped (xs ++ ys)
typed_then [] ys a b = b
typed_then (x ∷ xs) ys a b = (a.0, typed_then xs ys a.1 b)

others_then : (xs ys : List Action) → NoStart xs → NoStart ys → NoStart (xs ++ ys)
others_then [] ys a b = b
others_then (x ∷ xs) ys a b = (a.0, others_then xs ys a.1 b)

zeros : Bytes (0 ∷ 0 ∷ 0 ∷ 0 ∷ [])
zeros = tested (0 ∷ 0 ∷ 0 ∷ 0 ∷ []) refl

typed_round : ActionsTyped round
typed_round =
    (omega arith, none) & (tt, none) & (omega arith, none) & (omega arith, none) & ((omega arith, none) & (omega arith, none) & tt)
    & (tt, zeros) & (tt, zeros) & (tt, zeros) & (tt, none) & (tt, none) & (tt, none) & tt

-- only a start does not ask for a running layer
no_start : (x : Action) → asks_running x ≡ true → x ≡ single start → ⊥
no_start x asks e = true_not_false {b = true} refl (sym asks ∙ ap asks_running e)

others_round : NoStart round
others_round =
    no_start _ refl & no_start _ refl & no_start _ refl & no_start _ refl & no_start _ refl & no_start _ refl & no_start _ refl & no_start _ refl
    & no_start _ refl & no_start _ refl & no_start _ refl & tt

typed_rounds : (n : ℕ) → ActionsTyped (rounds n)
typed_rounds zero = tt
typed_rounds (suc n) = typed_then round (rounds n) typed_round (typed_rounds n)

others_rounds : (n : ℕ) → NoStart (rounds n)
others_rounds zero = tt
others_rounds (suc n) = others_then round (rounds n) others_round (others_rounds n)

-- objects that are sent, receive inside and receive from the bus have the filter
pub fourteen : Fourteen table 0 × Fourteen table 1 × Fourteen table 2
unfolding definitions
fourteen = (record { low = omega arith; filter = refl }, record { low = omega arith; filter = refl }, record { low = omega arith; filter = refl })

-- with a period of 3
abbrev Threes : ℕ → Type 0
Threes i = (before row after : List Bool) → filterings table i (rounds 100) begun ≡ before ++ (row ++ after) → length row ≡ 3 → passed row ≡ 1

-- of any three of the 300 in a row one passes
pub one_in_three : Threes 0 × Threes 1 × Threes 2
unfolding definitions
one_in_three =
    let claim = one_in_n table bytes [] (rounds 100) tt (typed_rounds 100) (others_rounds 100) (replicate memory_size 165) started in
    (claim 0 fourteen.0, claim 1 fourteen.1, claim 2 fourteen.2)

-- the 256th to 258th, from the claim
pub late_three : (passed (true ∷ false ∷ false ∷ []) ≡ 1) × (passed (false ∷ true ∷ false ∷ []) ≡ 1) × (passed (false ∷ false ∷ true ∷ []) ≡ 1)
late_three = (
  one_in_three.0 (repeated 85 (true ∷ false ∷ false ∷ [])) (true ∷ false ∷ false ∷ []) (repeated 14 (true ∷ false ∷ false ∷ [])) (all_rounds 0 _ sent 100) refl,
  one_in_three.1 (repeated 85 (false ∷ true ∷ false ∷ [])) (false ∷ true ∷ false ∷ []) (repeated 14 (false ∷ true ∷ false ∷ [])) (all_rounds 1 _ inside 100) refl,
  one_in_three.2 (repeated 85 (false ∷ false ∷ true ∷ [])) (false ∷ false ∷ true ∷ []) (repeated 14 (false ∷ false ∷ true ∷ [])) (all_rounds 2 _ received 100) refl,
)

-- also where they follow others, and another start
pub one_in_three_later : (before row after : List Bool)
    → filterings table 2 (rounds 90) (memory_after_all table (single start ∷ rounds 10 ++ (single start ∷ [])) (replicate memory_size 165)) ≡ before ++ (row ++ after)
    → length row ≡ 3 → passed row ≡ 1
unfolding definitions
one_in_three_later =
    one_in_n table bytes (rounds 10 ++ (single start ∷ [])) (rounds 90) (typed_then (rounds 10) (single start ∷ []) (typed_rounds 10) ((tt, none) & tt))
    (typed_rounds 90) (others_rounds 90) (replicate memory_size 165) started 2 fourteen.2

-- which of the 300 pass, from the claim
pub sent_in_turn : filterings table 0 (rounds 100) begun ≡ turns 3 0 0 300
unfolding definitions
sent_in_turn =
    in_turn table bytes (rounds 100) (typed_rounds 100) (others_rounds 100) (replicate memory_size 165) started 0 fourteen.0
    ∙ ap (turns 3 0 0) sent_300.many

-- ---- what a filtering does, from the claim that these are the layer's

-- the memory that a first and a second send leave
abbrev once : List ℕ
once = (step table (send 0 5 area) begun).memory

abbrev twice : List ℕ
twice = (step table (send 0 6 area) once).memory

sends_done : (done (step table (send 0 5 area) begun) ≡ true) × (done (step table (send 0 6 area) once) ≡ true)
unfolding definitions
sends_done = (refl, refl)

-- each of objects 0 and 1
first : (i : ℕ) → i < 2 → CallFilters table i (send 0 5 area) begun
unfolding definitions
first i low = all_filter table bytes [] tt (replicate memory_size 165) started (send 0 5 area) (omega arith, none) i (omega (arith, low))

second : (i : ℕ) → i < 2 → CallFilters table i (send 0 6 area) once
unfolding definitions
second i low =
    all_filter table bytes (single (send 0 5 area) ∷ []) ((omega arith, none) & tt) (replicate memory_size 165) started (send 0 6 area) (omega arith, none) i (omega (arith, low))

-- 5 passes and becomes old, and does not arrive inside; 6 is dropped, and arrives there
pub filterings_act : ((object_state (working_memory once) 0).old ≡ 5) × ((object_state (working_memory once) 1).marks ≡ 0)
    × ((object_state (working_memory twice) 0).old ≡ 5) × ((object_state (working_memory twice) 1).value ≡ 6) × ((object_state (working_memory twice) 1).marks ≡ 1)
unfolding definitions
filterings_act = (
  ap (λ (s : ObjectState). s.old) ((first 0 (omega arith)).one 5 sends_done.0 refl),
  ap (λ (s : ObjectState). s.marks) ((first 1 (omega arith)).one 5 sends_done.0 refl),
  ap (λ (s : ObjectState). s.old) ((second 0 (omega arith)).one 6 sends_done.1 refl),
  ap (λ (s : ObjectState). s.value) ((second 1 (omega arith)).one 6 sends_done.1 refl),
  ap (λ (s : ObjectState). s.marks) ((second 1 (omega arith)).one 6 sends_done.1 refl),
)
