-- A group beside its sends, each lent the group's area: the same memory, numbers and words, and the frames of the latest sends that ask
-- for them.
-- Assumes: the table holds bytes, and a value that is sent has 32 bits (`Typed`).
use Rattle.std.proofs.Common.{Bool, true, false, List, [], ◌∷◌, ◌++◌, append-nil, ◌⊎◌, inl, inr, ⊎_elim, ◌≡◌, refl, sym, ap, subst, ◌∙◌, ℕ, ◌*◌, ◌^◌, ◌≤◌, ◌<◌, arith, leb-true, Ok, Err}
use Rattle.std.proofs.Common.{bit_or, leb, length, drop}
use Rattle.memory.specs.Bytes.{Bytes, part}
use Rattle.memory.specs.Search.{pick}
use Rattle.memory.proofs.Tests.{eq_or_ne, true_not_false}
use Rattle.bits.specs.Bits.{bit}
use Rattle.bits.proofs.Numbers.{bit_lt, or_bit}
use Rattle.table.specs.declared.Counts.{Counts}
use Rattle.table.specs.Records.{ipdu_record}
use Rattle.table.specs.Check.{check}
use Rattle.state.specs.Layout.{memory_size, area_size, slot_at}
use Rattle.calls.specs.Answers.{Answer}
use Rattle.calls.specs.declared.Refusal.TheVariants.{WrongLength, WrongMemory, Stopped}
use Rattle.calls.specs.Answers.{Outcome, number_of, value_of}
use Rattle.calls.proofs.Records.{ipdu_short}
use Rattle.layer.specs.Admission.{Admission}
use Rattle.layer.specs.Admission.{working_memory, admission, if_admitted}
use Rattle.layer.specs.Step.{send, describe, step, run, memory_after}
use Rattle.group.specs.declared.Pair.{Pair}
use Rattle.group.specs.Groups.{Sent, sent, with_send, send_each, send_one, Group, refuse, well_formed, outcome_of, group_step}
use Rattle.group.proofs.SendLeaves.{send_area_length, send_area_slot}
use Rattle.trace.specs.Book.{Book, advance}
use Rattle.trace.specs.Demand3.{AllTyped, frame, Names, Unnamed, HandedOver, numbers_of, words_joined}
use Rattle.trace.specs.Actions.{sends_of, accepts_group}
use Rattle.trace.proofs.SendFrames.{send_area}
use Rattle.trace.proofs.Steps.{Follows, admission_by, Admits, goes, stays, admits, admission_is, step_follows, step_frames}

-- a joined word names what one of the two does
joined_names : (v w k : ℕ) → (Names w k → ⊥) → Names (bit_or v w) k → Names v k
joined_names v w k other e = ⊎_elim (λ (y : bit v k ≡ 1). y) (λ (n : bit v k ≡ 1 → ⊥). absurd (none n)) (eq_or_ne (bit v k) 1)
  where
    none : (bit v k ≡ 1 → ⊥) → ⊥
    none n =
        let zv : bit v k ≡ 0 = omega (arith, bit_lt v k, n) in
        let zw : bit w k ≡ 0 = omega (arith, bit_lt w k, other) in
        let one : bit (bit_or v w) k ≡ 0 = or_bit v w k ∙ rw (zv, zw) in
        omega (arith, one, e)

-- a send that is lent another area as long gives the same answer and memory
pub step_areas : (t : List ℕ) (i v : ℕ) (area other m : List ℕ) → length area ≡ length other
    → ((step t (send i v area) m).answer ≡ (step t (send i v other) m).answer) × ((step t (send i v area) m).memory ≡ (step t (send i v other) m).memory)
unfolding step
step_areas t i v area other m e = rw (sym e) (by (admission t m (leb area_size (length area))))
  where
    by : (a : Admission)
        → ((if_admitted a m area ((describe (send i v area)).does t)).answer ≡ (if_admitted a m other ((describe (send i v other)).does t)).answer)
        × ((if_admitted a m area ((describe (send i v area)).does t)).memory ≡ (if_admitted a m other ((describe (send i v other)).does t)).memory)
    by (Ok c) =
        let x = send_area t c i v area other (working_memory m) in (x.0, ap (λ (n : List ℕ). n ++ drop memory_size m) x.1)
    by (Err a) = (refl, refl)

module _ (t : List ℕ) (c : Counts) (accepted : check t ≡ Ok c) (bt : Bytes t) where
  -- ---- a send leaves the length of its area, and the slots that it does not ask for

  module _ (b : Book) (m : List ℕ) (f : Follows t c b m) (i v : ℕ) (small : v < 2 ^ 32) (area : List ℕ) (fits : area_size ≤ length area) where
    step_area_length : length (step t (send i v area) m).area ≡ length area
    unfolding step
    step_area_length = rw (admission_is t c accepted bt b m f (describe (send i v area))) (by (admits (describe (send i v area)) c b))
      where
        by : Admits (describe (send i v area)) c b
            → length (if_admitted (admission_by (describe (send i v area)) c b) m area ((describe (send i v area)).does t)).area ≡ length area
        by (goes a l on) = rw a (send_area_length t c i v small area fits (working_memory m) f.agrees.ready)
        by (stays z a done six off) = rw a

    step_area_slot : (k n : ℕ) → n ≤ 8 → (Names (value_of (step t (send i v area) m).answer) k → ⊥)
        → part (8 * k) n (step t (send i v area) m).area ≡ part (8 * k) n area
    unfolding step
    step_area_slot k n most = rw (admission_is t c accepted bt b m f (describe (send i v area))) (by (admits (describe (send i v area)) c b))
      where
        by : Admits (describe (send i v area)) c b
            → (Names (value_of (if_admitted (admission_by (describe (send i v area)) c b) m area ((describe (send i v area)).does t)).answer) k → ⊥)
            → part (8 * k) n (if_admitted (admission_by (describe (send i v area)) c b) m area ((describe (send i v area)).does t)).area ≡ part (8 * k) n area
        by (goes a l on) = rw a (send_area_slot t c i v small area fits (working_memory m) f.agrees.ready k n most)
        by (stays z a done six off) = rw a (λ no. refl)

  -- ---- the sends of a group, one after the other

  -- slot k after the sends: as before, and none has asked for it; or as the latest that did left it
  abbrev SlotAfter : ℕ → Sent → Sent → List Outcome → Type 0
  SlotAfter k r s os =
      ((k < c.ipdus → frame t k r.area ≡ frame t k s.area) × (Names r.word k → Names s.word k) × Unnamed k os)
      ⊎ HandedOver t k (frame t k r.area) os

  pub record Ran (ps : List Pair) (area : List ℕ) (s : Sent) : Type 0 where
    pub memory : (send_each (send_one t) ps s).memory ≡ memory_after t (sends_of ps area) s.memory
    pub statuses : (send_each (send_one t) ps s).statuses ≡ s.statuses ++ numbers_of (run t (sends_of ps area) s.memory)
    pub word : (send_each (send_one t) ps s).word ≡ words_joined s.word (run t (sends_of ps area) s.memory)
    pub slots : (k : ℕ) → SlotAfter k (send_each (send_one t) ps s) s (run t (sends_of ps area) s.memory)

  append_more : (xs ys : List ℕ) (x : ℕ) → (xs ++ (x ∷ [])) ++ ys ≡ xs ++ (x ∷ ys)
  append_more [] ys x = refl
  append_more (z ∷ xs) ys x = ap (λ (l : List ℕ). z ∷ l) (append_more xs ys x)

  nothing_ran : (area : List ℕ) (s : Sent) → Ran [] area s
  unfolding send_each
  nothing_ran area s =
      record { memory = refl; statuses = sym (append-nil s.statuses); word = refl; slots = λ k. inl (λ low. refl, λ z. z, tt) }

  module _ (p : Pair) (ps : List Pair) (area : List ℕ) (y : AllTyped (sends_of (p ∷ ps) area)) (b : Book) (s : Sent) (f : Follows t c b s.memory)
      (e : length s.area ≡ length area) (long : area_size ≤ length s.area) where
    -- the send of the group, and the same lent the group's area
    abbrev o : Outcome
    o = send_one t p s.area s.memory

    abbrev lent : Outcome
    lent = step t (send p.object p.value area) s.memory

    alike : (o.answer ≡ lent.answer) × (o.memory ≡ lent.memory)
    alike = step_areas t p.object p.value s.area area s.memory e

    abbrev rest : List Outcome
    rest = run t (sends_of ps area) lent.memory

    module _ (r : Sent) (k : ℕ) (same : k < c.ipdus → frame t k r.area ≡ frame t k o.area)
        (back : Names r.word k → Names (bit_or s.word (value_of o.answer)) k) (none : Unnamed k rest) where
      asked : Names (value_of o.answer) k → SlotAfter k r s (lent ∷ rest)
      asked named =
          let x = step_frames t c accepted bt b s.memory f (send p.object p.value s.area) y.0 in
          let z = step_frames t c accepted bt b s.memory f (send p.object p.value area) y.0 in
          let there : Names (value_of lent.answer) k = rw alike.0 at named in
          inr
          (inr (
            there,
            same (x.named k named).0
                ∙ x.slot k named
                ∙ ap (λ (n : List ℕ). part (slot_at k) (ipdu_record t k).length (working_memory n)) alike.1
                ∙ sym (z.slot k there),
            none,
          ))

      quiet : (Names (value_of o.answer) k → ⊥) → SlotAfter k r s (lent ∷ rest)
      quiet other =
          inl (
            λ low.
                same low
                ∙ step_area_slot b s.memory f p.object p.value y.0.0 s.area long k (ipdu_record t k).length
                (ipdu_short t c f.agrees.ready.right k low) other,
            λ e. joined_names s.word (value_of o.answer) k other (back e),
            ((λ e. other (rw alike.0 e)), none),
          )

      kept : SlotAfter k r s (lent ∷ rest)
      kept = ⊎_elim asked quiet (eq_or_ne (bit (value_of o.answer) k) 1)

    ran_more : Ran ps area (with_send s o) → Ran (p ∷ ps) area s
    unfolding send_each
    ran_more next =
        record {
          memory = next.memory ∙ ap (memory_after t (sends_of ps area)) alike.1;
          statuses =
              next.statuses
              ∙ append_more s.statuses (numbers_of (run t (sends_of ps area) o.memory)) (number_of o.answer)
              ∙ ap (λ (n : List ℕ). s.statuses ++ (number_of o.answer ∷ numbers_of (run t (sends_of ps area) n))) alike.1
              ∙ ap (λ (a : Answer). s.statuses ++ (number_of a ∷ numbers_of rest)) alike.0;
          word =
              next.word
              ∙ ap (λ (n : List ℕ). words_joined (bit_or s.word (value_of o.answer)) (run t (sends_of ps area) n)) alike.1
              ∙ ap (λ (a : Answer). words_joined (bit_or s.word (value_of a)) rest) alike.0;
          slots = λ k.
              ⊎_elim
              (λ (x : (k < c.ipdus → frame t k r.area ≡ frame t k o.area) × (Names r.word k → Names (bit_or s.word (value_of o.answer)) k) × Unnamed k rest).
              kept r k x.0 x.1 x.2)
              (λ (h : HandedOver t k (frame t k r.area) rest). inr (inl h))
              (subst (λ (n : List ℕ). SlotAfter k r (with_send s o) (run t (sends_of ps area) n)) alike.1 (next.slots k));
        }
      where
        r : Sent
        r = send_each (send_one t) ps (with_send s o)

  pub sends_ran : (ps : List Pair) (area : List ℕ) → AllTyped (sends_of ps area) → area_size ≤ length area → (b : Book) (s : Sent) → Follows t c b s.memory
      → length s.area ≡ length area → Ran ps area s
  sends_ran [] area y fits b s f e = nothing_ran area s
  sends_ran (p ∷ ps) area y fits b s f e =
      let long : area_size ≤ length s.area = omega (arith, fits, e) in
      ran_more p ps area y b s f e long
      (sends_ran ps area y.1 fits (advance t c b (send p.object p.value s.area)) (with_send s (send_one t p s.area s.memory))
      (step_follows t c accepted bt b s.memory f (send p.object p.value s.area) y.0)
      (step_area_length b s.memory f p.object p.value y.0.0 s.area long ∙ e))

  -- ---- a group, refused or not as the book has it

  -- the answer of a refusal, by the length of the area and whether the layer is stopped
  abbrev pub refusal_by : Book → ℕ → Answer
  refusal_by b n = pick (leb area_size n) (pick b.stopped (Err Stopped) (Err WrongLength)) (Err WrongMemory)

  pub data GroupDoes (b : Book) (g : Group) (m : List ℕ) : Type 0 where
    sends : accepts_group b g ≡ true → area_size ≤ length g.area
        → group_step t g m ≡ outcome_of (send_each (send_one t) g.pairs.list (sent 0 m g.area [])) → GroupDoes b g m
    refuses : (a : Answer) → a ≡ refusal_by b (length g.area) → accepts_group b g ≡ false → group_step t g m ≡ refuse a g m → (number_of a ≡ 0 → ⊥)
        → (leb area_size (length g.area) ≡ true → number_of a ≡ 6 → ⊥) → value_of a ≡ 0 → GroupDoes b g m

  pub group_does : (b : Book) (g : Group) (m : List ℕ) → Follows t c b m → GroupDoes b g m
  unfolding group_step
  group_does b g m f = cases (leb area_size (length g.area)) b.stopped (well_formed g) refl refl refl
    where
      admitted : admission t m (leb area_size (length g.area)) ≡ admission_by (describe (send 0 0 g.area)) c b
      admitted = admission_is t c accepted bt b m f (describe (send 0 0 g.area))

      cases : (l s w : Bool) → leb area_size (length g.area) ≡ l → b.stopped ≡ s → well_formed g ≡ w → GroupDoes b g m
      cases false s w el es ew =
          refuses (Err WrongMemory) (rw el) (rw el) (rw (admitted, el)) (λ e. omega (arith, e)) (λ e. absurd (true_not_false e el)) refl
      cases true true w el es ew =
          refuses (Err Stopped) (rw (el, es)) (rw (el, es)) (rw (admitted, el, es)) (λ e. omega (arith, e)) (λ e six. omega (arith, six)) refl
      cases true false false el es ew =
          refuses (Err WrongLength) (rw (el, es)) (rw (el, es, ew)) (rw (admitted, el, es, ew)) (λ e. omega (arith, e)) (λ e six. omega (arith, six)) refl
      cases true false true el es ew = sends (rw (el, es, ew)) (leb-true area_size (length g.area) el) (rw (admitted, el, es, ew))

  -- with a long enough area it answers no 6
  pub group_not_6 : (b : Book) (g : Group) (m : List ℕ) → Follows t c b m → leb area_size (length g.area) ≡ true → number_of (group_step t g m).answer ≡ 6 → ⊥
  group_not_6 b g m f long = by (group_does b g m f)
    where
      by : GroupDoes b g m → number_of (group_step t g m).answer ≡ 6 → ⊥
      by (sends done fits does) = rw does (λ e. omega (arith, e))
      by (refuses a is off does some six none) = rw does (six long)
