-- The examples of W-202, proved by computation from the definitions; each step is taken as `step_fast` has it.
-- Assumes nothing.
use Rattle.std.proofs.Common.{List, [], ◌∷◌, ◌≡◌, refl, ap, ◌∙◌, ℕ, leb, length, replicate, Ok, Err}
use Rattle.state.specs.Layout.{memory_size, area_size}
use Rattle.calls.specs.Answers.{Outcome}
use Rattle.layer.specs.Admission.{Admission}
use Rattle.layer.specs.Admission.{admission}
use Rattle.layer.specs.Step.{Call, send, run, memory_after}
use Rattle.group.specs.declared.Pair.{Pair}
use Rattle.group.specs.Pairs.{pair_at}
use Rattle.group.specs.Groups.{Sent, sent, with_send, send_each, send_one, Group, GroupOutcome, refuse, group_by, if_group_admitted, group_step}
use Rattle.cases.specs.Case.{calls_of, expected, answered}
use Rattle.group_cases.specs.GroupCases.{GroupCase, gives, memory_before, GroupHolds, AllGroupsHold, sent_groups, refused_groups}
use Rattle.cases.proofs.Definitions.{definitions, ◌&◌}
use Rattle.cases.proofs.Computed.{step_fast, step_fast_lem, run_fast, run_fast_lem}

-- ---- faster steps

abbrev send_fast : List ℕ → Pair → List ℕ → List ℕ → Outcome
send_fast t p area m = step_fast t (send p.object p.value area) m

each_fast : (t : List ℕ) (ps : List Pair) (s : Sent) → send_each (send_one t) ps s ≡ send_each (send_fast t) ps s
unfolding send_each
each_fast t [] s = refl
each_fast t (p ∷ ps) s =
    ap (λ (o : Outcome). send_each (send_one t) ps (with_send s o)) (step_fast_lem t (send p.object p.value s.area) s.memory)
    ∙ each_fast t ps (with_send s (send_fast t p s.area s.memory))

abbrev fast_as : Admission → List ℕ → Group → List ℕ → GroupOutcome
fast_as (Ok c) t g m = group_by (send_fast t) g m
fast_as (Err r) t g m = refuse (Err r) g m

abbrev group_fast : List ℕ → Group → List ℕ → GroupOutcome
group_fast t g m = fast_as (admission t m (leb area_size (length g.area))) t g m

group_fast_lem : (t : List ℕ) (g : Group) (m : List ℕ) → group_step t g m ≡ group_fast t g m
unfolding group_step
group_fast_lem t g m = by (admission t m (leb area_size (length g.area)))
  where
    by : (a : Admission) → if_group_admitted a t g m ≡ fast_as a t g m
    by (Ok c) = rw (each_fast t g.pairs.list (sent 0 m g.area []))
    by (Err a) = refl

abbrev memory_fast : List ℕ → List Call → List ℕ → List ℕ
memory_fast t [] m = m
memory_fast t (call ∷ calls) m = memory_fast t calls (step_fast t call m).memory

memory_fast_lem : (t : List ℕ) (calls : List Call) (m : List ℕ) → memory_after t calls m ≡ memory_fast t calls m
memory_fast_lem t [] m = refl
memory_fast_lem t (call ∷ calls) m =
    ap (λ (o : Outcome). memory_after t calls o.memory) (step_fast_lem t call m) ∙ memory_fast_lem t calls (step_fast t call m).memory

-- ---- the cases

abbrev outcome_fast : GroupCase → GroupOutcome
outcome_fast c = group_fast c.table c.group (memory_fast c.table c.before (replicate memory_size 165))

abbrev Computes : GroupCase → Type 0
Computes c =
    (gives c.slots (outcome_fast c) ≡ (c.number ∷ c.word ∷ []) ∷ c.statuses ∷ c.bytes ∷ [])
    × (answered c.after (run_fast c.table (calls_of c.after) (outcome_fast c).memory) ≡ expected c.after)

group_holds : (c : GroupCase) → Computes c → GroupHolds c
group_holds c e =
    let same : group_step c.table c.group (memory_before c) ≡ outcome_fast c =
    ap (group_step c.table c.group) (memory_fast_lem c.table c.before (replicate memory_size 165)) ∙ group_fast_lem c.table c.group _ in
    record {
      given = ap (gives c.slots) same ∙ e.0;
      after =
          ap (λ (o : GroupOutcome). answered c.after (run c.table (calls_of c.after) o.memory)) same
          ∙ ap (answered c.after) (run_fast_lem c.table (calls_of c.after) (outcome_fast c).memory)
          ∙ e.1;
    }

abbrev AllCompute : List GroupCase → Type 0
AllCompute [] = Unit {0}
AllCompute (c ∷ cs) = Computes c × AllCompute cs

all_groups : (cs : List GroupCase) → AllCompute cs → AllGroupsHold cs
all_groups [] e = tt
all_groups (c ∷ cs) e = (group_holds c e.0, all_groups cs e.1)

pub sent_groups_hold : AllGroupsHold sent_groups
unfolding definitions pair_at send_each
sent_groups_hold =
    all_groups sent_groups ((refl, refl) & (refl, refl) & (refl, refl) & (refl, refl) & (refl, refl) & (refl, refl) & tt)

pub refused_groups_hold : AllGroupsHold refused_groups
unfolding definitions pair_at send_each
refused_groups_hold =
    all_groups refused_groups
    ((refl, refl) & (refl, refl) & (refl, refl) & (refl, refl) & (refl, refl)
    & (refl, refl) & (refl, refl) & (refl, refl) & (refl, refl) & (refl, refl) & tt)
