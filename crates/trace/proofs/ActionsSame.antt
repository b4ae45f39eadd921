-- Demand 3 (b) over lists with groups: groups alike give the same number, word, statuses and frames, and leave memories and books alike.
-- Assumes: the table holds bytes, and arguments are of the types that the calls take (`TypedAction`).
use Rattle.std.proofs.Common.{Bool, true, false, List, [], ◌∷◌, inl, inr, ⊎_elim, ◌≡◌, refl, sym, ap, ap₂, subst, ◌∙◌, ℕ, suc, bit_or, length, Ok}
use Rattle.memory.specs.Bytes.{Bytes}
use Rattle.memory.specs.Search.{pick}
use Rattle.memory.proofs.Tests.{true_not_false}
use Rattle.table.specs.declared.Counts.{Counts}
use Rattle.table.specs.Check.{check}
use Rattle.calls.specs.Answers.{Outcome, number_of, value_of}
use Rattle.layer.specs.Admission.{working_memory}
use Rattle.layer.specs.Step.{Call, send, step, run, memory_after}
use Rattle.group.specs.declared.Pair.{Pair}
use Rattle.group.specs.Groups.{sent, Group, well_formed, group_step}
use Rattle.trace.specs.Book.{Book, advance}
use Rattle.trace.specs.Actions.{Action, group, leaves, sends_of, group_sends, accepts_group, advance_by}
use Rattle.trace.specs.Demand3.{AllTyped, TypedAction, ActionsTyped, Unnamed, HandedOver, numbers_of, words_joined, AllAlike, AllSame, SameShape}
use Rattle.trace.specs.Demand3.{AlikeAction, alike_calls, alike_groups, ActionsAlike, SameGroup, SameAction, ActionsSame}
use Rattle.trace.proofs.FramesInArea.{in_area_none}
use Rattle.trace.proofs.Steps.{Follows}
use Rattle.trace.proofs.Noninterference.{alike_step, same_answer, lists_same, lists_end}
use Rattle.trace.proofs.GroupSends.{sends_ran, refusal_by, GroupDoes, sends, refuses, group_does}
use Rattle.trace.proofs.ActionsKept.{group_memory, action_follows}

-- ---- two lists of calls with the same answers

module _ (t : List ℕ) where
  numbers_same : (xs ys : List Call) (m n : List ℕ) → AllSame t xs ys m n → numbers_of (run t xs m) ≡ numbers_of (run t ys n)
  numbers_same [] [] m n s = refl
  numbers_same [] (y ∷ ys) m n s = absurd s
  numbers_same (x ∷ xs) [] m n s = absurd s
  numbers_same (x ∷ xs) (y ∷ ys) m n s =
      ap₂ (λ (a : ℕ) (l : List ℕ). a ∷ l) s.0.number (numbers_same xs ys (step t x m).memory (step t y n).memory s.1)

  words_same : (xs ys : List Call) (w : ℕ) (m n : List ℕ) → AllSame t xs ys m n → words_joined w (run t xs m) ≡ words_joined w (run t ys n)
  words_same [] [] w m n s = refl
  words_same [] (y ∷ ys) w m n s = absurd s
  words_same (x ∷ xs) [] w m n s = absurd s
  words_same (x ∷ xs) (y ∷ ys) w m n s =
      words_same xs ys (bit_or w (value_of (step t x m).answer)) (step t x m).memory (step t y n).memory s.1
      ∙ ap (λ (v : ℕ). words_joined (bit_or w v) (run t ys (step t y n).memory)) s.0.value

  module _ (k : ℕ) where
    unnamed_to : (xs ys : List Call) (m n : List ℕ) → AllSame t xs ys m n → Unnamed k (run t xs m) → Unnamed k (run t ys n)
    unnamed_to [] [] m n s u = tt
    unnamed_to [] (y ∷ ys) m n s u = absurd s
    unnamed_to (x ∷ xs) [] m n s u = absurd s
    unnamed_to (x ∷ xs) (y ∷ ys) m n s u = (
      λ e. u.0 (rw s.0.value e),
      unnamed_to xs ys (step t x m).memory (step t y n).memory s.1 u.1,
    )

    unnamed_from : (xs ys : List Call) (m n : List ℕ) → AllSame t xs ys m n → Unnamed k (run t ys n) → Unnamed k (run t xs m)
    unnamed_from [] [] m n s u = tt
    unnamed_from [] (y ∷ ys) m n s u = absurd s
    unnamed_from (x ∷ xs) [] m n s u = absurd s
    unnamed_from (x ∷ xs) (y ∷ ys) m n s u = (
      λ e. u.0 (rw (← s.0.value) e),
      unnamed_from xs ys (step t x m).memory (step t y n).memory s.1 u.1,
    )

    handed_named : (f : List ℕ) (os : List Outcome) → HandedOver t k f os → Unnamed k os → ⊥
    handed_named f [] h u = h
    handed_named f (o ∷ os) (inl h) u = handed_named f os h u.1
    handed_named f (o ∷ os) (inr h) u = u.0 h.0

    -- the latest sends that ask for it stand at one place
    handed_same : (ps qs : List Pair) (area other m n f g : List ℕ) → AllSame t (sends_of ps area) (sends_of qs other) m n
        → HandedOver t k f (run t (sends_of ps area) m) → HandedOver t k g (run t (sends_of qs other) n) → f ≡ g
    handed_same [] [] area other m n f g s h i = absurd h
    handed_same [] (q ∷ qs) area other m n f g s h i = absurd s
    handed_same (p ∷ ps) [] area other m n f g s h i = absurd s
    handed_same (p ∷ ps) (q ∷ qs) area other m n f g s (inl h) (inl i) = handed_same ps qs area other _ _ f g s.1 h i
    handed_same (p ∷ ps) (q ∷ qs) area other m n f g s (inl h) (inr i) =
        absurd (handed_named f (run t (sends_of ps area) (step t (send p.object p.value area) m).memory) h (unnamed_from (sends_of ps area) (sends_of qs other) _ _ s.1 i.2))
    handed_same (p ∷ ps) (q ∷ qs) area other m n f g s (inr h) (inl i) =
        absurd (handed_named g (run t (sends_of qs other) (step t (send q.object q.value other) n).memory) i (unnamed_to (sends_of ps area) (sends_of qs other) _ _ s.1 h.2))
    handed_same (p ∷ ps) (q ∷ qs) area other m n f g s (inr h) (inr i) = h.1 ∙ s.0.frames k h.0 ∙ sym i.1

-- groups of one shape with sends alike are refused alike
as_many : (t : List ℕ) (c : Counts) (b d : Book) (ps qs : List Pair) (area other : List ℕ) → AllAlike t c b d (sends_of ps area) (sends_of qs other) → length ps ≡ length qs
as_many t c b d [] [] area other a = refl
as_many t c b d [] (q ∷ qs) area other a = absurd a
as_many t c b d (p ∷ ps) [] area other a = absurd a
as_many t c b d (p ∷ ps) (q ∷ qs) area other a =
    ap suc (as_many t c (advance t c b (send p.object p.value area)) (advance t c d (send q.object q.value other)) ps qs area other a.1)

module _ (t : List ℕ) (c : Counts) (accepted : check t ≡ Ok c) (bt : Bytes t) where
  module _ (b : Book) (m n : List ℕ) (f : Follows t c b m) (e : Follows t c b n) (alike : working_memory m ≡ working_memory n) where
    record ActionStep (x y : Action) : Type 0 where
      same : SameAction t x y m n
      memory : working_memory (leaves t x m) ≡ working_memory (leaves t y n)
      book : advance_by t c b x ≡ advance_by t c b y

    -- ---- groups

    module _ (g h : Group) (p : AllTyped (group_sends g)) (q : AllTyped (group_sends h)) (shape : SameShape g h) (a : AllAlike t c b b (group_sends g) (group_sends h)) where
      formed : well_formed g ≡ well_formed h
      formed =
          let many = as_many t c b b g.pairs.list h.pairs.list g.area h.area a in
          rw (many, shape.whole, shape.statuses)

      accepts_same : accepts_group b g ≡ accepts_group b h
      accepts_same = rw (shape.area, formed)

      answers : AllSame t (group_sends g) (group_sends h) m n
      answers = lists_same t c accepted bt (group_sends g) (group_sends h) p q b m n f e alike a

      outcome_same : SameGroup t (group_step t g m) (group_step t h n)
      outcome_same = by (group_does t c accepted bt b g m f) (group_does t c accepted bt b h n e)
        where
          by : GroupDoes t c accepted bt b g m → GroupDoes t c accepted bt b h n → SameGroup t (group_step t g m) (group_step t h n)
          by (sends done fits does) (sends done' fits' does') =
              let x = sends_ran t c accepted bt g.pairs.list g.area p fits b (sent 0 m g.area []) f refl in
              let y = sends_ran t c accepted bt h.pairs.list h.area q fits' b (sent 0 n h.area []) e refl in
              let word = x.word ∙ words_same t (group_sends g) (group_sends h) 0 m n answers ∙ sym y.word in
              rw (does, does')
              (record {
                number = refl;
                word = word;
                statuses = λ z. x.statuses ∙ numbers_same t (group_sends g) (group_sends h) m n answers ∙ sym y.statuses;
                frames = λ k z.
                    ⊎_elim (λ u. absurd (in_area_none k (u.1 z)))
                    (λ hx.
                    ⊎_elim (λ u. absurd (in_area_none k (u.1 (rw word at z))))
                    (λ hy. handed_same t k g.pairs.list h.pairs.list g.area h.area m n _ _ answers hx hy) (y.slots k))
                    (x.slots k);
              })
          by (sends done fits does) (refuses r is off does' some six none) = absurd (true_not_false done (accepts_same ∙ off))
          by (refuses r is off does some six none) (sends done fits does') = absurd (true_not_false (accepts_same ∙ done) off)
          by (refuses r is off does some six none) (refuses r' is' off' does' some' six' none') =
              let same : r ≡ r' = is ∙ ap (refusal_by t c accepted bt b) shape.area ∙ sym is' in
              rw (does, does')
              (record {
                number = ap number_of same;
                word = ap value_of same;
                statuses = λ z. absurd (some z);
                frames = λ k z. absurd (in_area_none k (rw none at z));
              })

      groups_step : ActionStep (group g) (group h)
      groups_step =
          let end = lists_end t c accepted bt (group_sends g) (group_sends h) p q b m n f e alike a in
          record {
            same = outcome_same;
            memory =
                ap working_memory (group_memory t c accepted bt b m f g p)
                ∙ both (accepts_group b g) end.memory
                ∙ ap (λ (w : Bool). working_memory (memory_after t (pick w (group_sends h) []) n)) accepts_same
                ∙ sym (ap working_memory (group_memory t c accepted bt b n e h q));
            book = ap₂ (λ (w : Bool) (d : Book). pick w d b) accepts_same end.book;
          }
        where
          both : (w : Bool) → working_memory (memory_after t (group_sends g) m) ≡ working_memory (memory_after t (group_sends h) n)
              → working_memory (memory_after t (pick w (group_sends g) []) m) ≡ working_memory (memory_after t (pick w (group_sends h) []) n)
          both true z = z
          both false z = alike

    -- ---- actions

    action_step : (x y : Action) → TypedAction x → TypedAction y → AlikeAction t c b b x y → ActionStep x y
    action_step x y p q (alike_calls u v ex ey a) =
        let typed_u = subst TypedAction ex p in
        let typed_v = subst TypedAction ey q in
        let s = alike_step t c accepted bt b m n f e alike u v typed_u typed_v a in
        rw (ex, ey) (record { same = same_answer t c accepted bt b m n f e alike u v typed_u typed_v s; memory = s.outcome.memory; book = s.book })
    action_step x y p q (alike_groups g h ex ey shape a) = rw (ex, ey) (groups_step g h (subst TypedAction ex p) (subst TypedAction ey q) shape a)

  pub actions_same : (xs ys : List Action) → ActionsTyped xs → ActionsTyped ys → (b : Book) (m n : List ℕ) → Follows t c b m → Follows t c b n
      → working_memory m ≡ working_memory n → ActionsAlike t c b b xs ys → ActionsSame t xs ys m n
  actions_same [] [] p q b m n f g e a = tt
  actions_same [] (y ∷ ys) p q b m n f g e a = a
  actions_same (x ∷ xs) [] p q b m n f g e a = a
  actions_same (x ∷ xs) (y ∷ ys) p q b m n f g e a =
      let s = action_step b m n f g e x y p.0 q.0 a.0 in (
        s.same,
        actions_same xs ys p.1 q.1 (advance_by t c b x) (leaves t x m) (leaves t y n)
            (action_follows t c accepted bt b m f x p.0)
            (subst (λ (d : Book). Follows t c d (leaves t y n)) (sym s.book) (action_follows t c accepted bt b n g y q.0))
            s.memory
            (subst (λ (d : Book). ActionsAlike t c (advance_by t c b x) d xs ys) (sym s.book) a.1),
      )
