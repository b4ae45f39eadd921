-- Demand 3 (a) over lists with groups: a group follows the book as its sends do, and each action of a list is kept. The single calls that a
-- list stands for leave the same memory and book.
-- Assumes: the table holds bytes, and arguments are of the types that the calls take (`TypedAction`).
use Rattle.std.proofs.Common.{Bool, true, false, List, [], ◌∷◌, ◌++◌, ⊎_elim, ◌≡◌, refl, sym, ap, ◌∙◌, ℕ, ne_eqb, Ok}
use Rattle.memory.specs.Bytes.{Bytes}
use Rattle.memory.specs.Search.{pick}
use Rattle.memory.proofs.Search.{picked}
use Rattle.memory.proofs.Tests.{true_not_false}
use Rattle.table.specs.declared.Counts.{Counts}
use Rattle.table.specs.Check.{check}
use Rattle.calls.specs.Answers.{number_of}
use Rattle.layer.specs.Step.{Call, step, memory_after}
use Rattle.group.specs.Groups.{sent, Group, group_step}
use Rattle.trace.specs.Book.{Book, advance, book_after}
use Rattle.trace.specs.Actions.{Action, single, group, leaves, group_sends, accepts_group, advance_by, expanded, memory_after_all, book_after_all}
use Rattle.trace.specs.Demand3.{AllTyped, TypedAction, ActionsTyped, GroupKept, ActionKept, ActionsKept}
use Rattle.trace.proofs.FramesInArea.{in_area_none}
use Rattle.trace.proofs.Steps.{Follows, step_follows, list_follows}
use Rattle.trace.proofs.KeptLists.{call_kept, list_kept}
use Rattle.trace.proofs.GroupSends.{sends_ran, GroupDoes, sends, refuses, group_does}

module _ (t : List ℕ) (c : Counts) (accepted : check t ≡ Ok c) (bt : Bytes t) where
  module _ (b : Book) (m : List ℕ) (f : Follows t c b m) where
    -- ---- a group

    module _ (g : Group) (y : AllTyped (group_sends g)) where
      -- its memory is that of its sends
      pub group_memory : (group_step t g m).memory ≡ memory_after t (pick (accepts_group b g) (group_sends g) []) m
      group_memory = by (group_does t c accepted bt b g m f)
        where
          by : GroupDoes t c accepted bt b g m → (group_step t g m).memory ≡ memory_after t (pick (accepts_group b g) (group_sends g) []) m
          by (sends done fits does) = rw (does, done) (sends_ran t c accepted bt g.pairs.list g.area y fits b (sent 0 m g.area []) f refl).memory
          by (refuses a is off does some six none) = rw (does, off)

      group_follows : Follows t c (advance_by t c b (group g)) (group_step t g m).memory
      group_follows = rw group_memory (by (accepts_group b g))
        where
          by : (went : Bool) → Follows t c (pick went (book_after t c b (group_sends g)) b) (memory_after t (pick went (group_sends g) []) m)
          by true = list_follows t c accepted bt (group_sends g) y b m f
          by false = f

      pub group_kept : GroupKept t c b g m (group_step t g m)
      group_kept = by (group_does t c accepted bt b g m f)
        where
          by : GroupDoes t c accepted bt b g m → GroupKept t c b g m (group_step t g m)
          by (sends done fits does) =
              let x = sends_ran t c accepted bt g.pairs.list g.area y fits b (sent 0 m g.area []) f refl in
              rw does
              (record {
                judged = rw done;
                sends = λ e. list_kept t c accepted bt (group_sends g) y b m f;
                statuses = λ e. x.statuses;
                word = λ e. x.word;
                frames = λ k e. ⊎_elim (λ z. absurd (in_area_none k (z.1 e))) (λ z. z) (x.slots k);
              })
          by (refuses a is off does some six none) =
              rw does
              (record {
                judged = rw off (ne_eqb (number_of a) 0 some);
                sends = λ e. absurd (true_not_false e off);
                statuses = λ e. absurd (true_not_false e off);
                word = λ e. absurd (true_not_false e off);
                frames = λ k e. absurd (in_area_none k (rw none at e));
              })

    -- ---- an action

    pub action_follows : (x : Action) → TypedAction x → Follows t c (advance_by t c b x) (leaves t x m)
    action_follows (single call) y = step_follows t c accepted bt b m f call y
    action_follows (group g) y = group_follows g y

    action_kept : (x : Action) → TypedAction x → ActionKept t c b x m
    action_kept (single call) y = call_kept t c accepted bt b m f call y
    action_kept (group g) y = group_kept g y

  -- ---- a list of actions

  pub actions_follow : (xs : List Action) → ActionsTyped xs → (b : Book) (m : List ℕ) → Follows t c b m → Follows t c (book_after_all t c b xs) (memory_after_all t xs m)
  actions_follow [] y b m f = f
  actions_follow (x ∷ xs) y b m f = actions_follow xs y.1 (advance_by t c b x) (leaves t x m) (action_follows b m f x y.0)

  pub actions_kept : (xs : List Action) → ActionsTyped xs → (b : Book) (m : List ℕ) → Follows t c b m → ActionsKept t c b xs m
  actions_kept [] y b m f = tt
  actions_kept (x ∷ xs) y b m f = (
    action_kept b m f x y.0,
    actions_kept xs y.1 (advance_by t c b x) (leaves t x m) (action_follows b m f x y.0),
  )

-- ---- the single calls that it stands for

both_typed : (xs ys : List Call) → AllTyped xs → AllTyped ys → AllTyped (xs ++ ys)
both_typed [] ys y z = z
both_typed (x ∷ xs) ys y z = (y.0, both_typed xs ys y.1 z)

memory_then : (t : List ℕ) (xs ys : List Call) (m : List ℕ) → memory_after t (xs ++ ys) m ≡ memory_after t ys (memory_after t xs m)
memory_then t [] ys m = refl
memory_then t (x ∷ xs) ys m = memory_then t xs ys (step t x m).memory

book_then : (t : List ℕ) (c : Counts) (xs ys : List Call) (b : Book) → book_after t c b (xs ++ ys) ≡ book_after t c (book_after t c b xs) ys
book_then t c [] ys b = refl
book_then t c (x ∷ xs) ys b = book_then t c xs ys (advance t c b x)

module _ (t : List ℕ) (c : Counts) where
  pub expanded_typed : (xs : List Action) (b : Book) → ActionsTyped xs → AllTyped (expanded t c b xs)
  expanded_typed [] b y = tt
  expanded_typed (single call ∷ xs) b y = (y.0, expanded_typed xs (advance t c b call) y.1)
  expanded_typed (group g ∷ xs) b y =
      both_typed (pick (accepts_group b g) (group_sends g) []) (expanded t c (advance_by t c b (group g)) xs)
      (picked AllTyped (accepts_group b g) (group_sends g) [] (λ e. y.0) (λ e. tt)) (expanded_typed xs (advance_by t c b (group g)) y.1)

  pub expanded_book : (xs : List Action) (b : Book) → book_after_all t c b xs ≡ book_after t c b (expanded t c b xs)
  expanded_book [] b = refl
  expanded_book (single call ∷ xs) b = expanded_book xs (advance t c b call)
  expanded_book (group g ∷ xs) b =
      expanded_book xs (advance_by t c b (group g))
      ∙ ap (λ (d : Book). book_after t c d (expanded t c (advance_by t c b (group g)) xs)) (by (accepts_group b g))
      ∙ sym (book_then t c (pick (accepts_group b g) (group_sends g) []) (expanded t c (advance_by t c b (group g)) xs) b)
    where
      by : (went : Bool) → pick went (book_after t c b (group_sends g)) b ≡ book_after t c b (pick went (group_sends g) [])
      by true = refl
      by false = refl

  module _ (accepted : check t ≡ Ok c) (bt : Bytes t) where
    pub expanded_memory : (xs : List Action) → ActionsTyped xs → (b : Book) (m : List ℕ) → Follows t c b m → memory_after_all t xs m ≡ memory_after t (expanded t c b xs) m
    expanded_memory [] y b m f = refl
    expanded_memory (single call ∷ xs) y b m f =
        expanded_memory xs y.1 (advance t c b call) (step t call m).memory (action_follows t c accepted bt b m f (single call) y.0)
    expanded_memory (group g ∷ xs) y b m f =
        expanded_memory xs y.1 (advance_by t c b (group g)) (group_step t g m).memory (action_follows t c accepted bt b m f (group g) y.0)
        ∙ ap (memory_after t (expanded t c (advance_by t c b (group g)) xs)) (group_memory t c accepted bt b m f g y.0)
        ∙ sym (memory_then t (pick (accepts_group b g) (group_sends g) []) (expanded t c (advance_by t c b (group g)) xs) m)
