-- The number that a begin or a drain answers: the layer's own, which is as the book has it, or else the objects'. It is no 6 where what it is
-- lent fits. Assumes nothing.
use Rattle.std.proofs.Common.{Bool, true, false, ◌&&◌, ◌||◌, List, [], ⊎_elim, ◌≡◌, refl, ℕ, arith, eqb-true, leb, ltb, eqb, length, Ok, Err}
use Rattle.memory.specs.Bytes.{Bytes}
use Rattle.memory.specs.Search.{pick, any_below}
use Rattle.memory.proofs.Tests.{true_or_false}
use Rattle.table.specs.declared.Counts.{Counts}
use Rattle.table.specs.Check.{check}
use Rattle.calls.specs.declared.Refusal.TheVariants.{Stopped}
use Rattle.layer.specs.Promises.{refusal_of, refusal}
use Rattle.layer.specs.Step.{send, receive, describe}
use Rattle.sheet.specs.Layout.{most_followed, sheet_size, followed_at, objects_in, sheet_in_range}
use Rattle.sheet.specs.Lines.{text_size}
use Rattle.sheet.specs.Sheets.{wrong_object, stands_before, objects_refusal, first_refusal, begin_with, begin, drain_with, drain}
use Rattle.trace.specs.Book.{Book}
use Rattle.trace.specs.Drains.{BeginGiven, DrainGiven, begun_by, drained_by}
use Rattle.trace.proofs.Steps.{Follows, admission_is}

-- ---- by the number that refuses, if any

abbrev pub begin_number : List ℕ → BeginGiven → List ℕ → ℕ
begin_number t g m = first_refusal (refusal t m (leb sheet_size (length g.sheet))) (objects_refusal t m g.objects)

abbrev pub drain_number : List ℕ → DrainGiven → List ℕ → ℕ
drain_number t d m =
    first_refusal (refusal t m (sheet_in_range d.sheet && leb text_size (length d.text))) (objects_refusal t m (objects_in (followed_at d.sheet) d.sheet))

pub begin_number_lem : (t : List ℕ) (g : BeginGiven) (m : List ℕ) → (begun_by t g m).reply.number ≡ begin_number t g m
unfolding begin
begin_number_lem t g m = by (begin_number t g m)
  where
    by : (n : ℕ) → (begin_with n g.sheet g.objects).reply.number ≡ n
    by n = ⊎_elim (λ (z : eqb n 0 ≡ true). rw (z, eqb-true n 0 z)) (λ (z : eqb n 0 ≡ false). rw z) (true_or_false (eqb n 0))

pub drain_number_lem : (t : List ℕ) (d : DrainGiven) (m : List ℕ) → (drained_by t d m).reply.number ≡ drain_number t d m
unfolding drain
drain_number_lem t d m = by (drain_number t d m)
  where
    by : (n : ℕ) → (drain_with n t m d.sheet d.text).reply.number ≡ n
    by n = ⊎_elim (λ (z : eqb n 0 ≡ true). rw (z, eqb-true n 0 z)) (λ (z : eqb n 0 ≡ false). rw z) (true_or_false (eqb n 0))

-- ---- no 6

objects_not_6 : (t m is : List ℕ) → objects_refusal t m is ≡ 6 → ⊥
unfolding objects_refusal
objects_not_6 t m is = by (any_below (length is) (wrong_object t m is)) (ltb most_followed (length is) || any_below (length is) (stands_before is))
  where
    by : (a b : Bool) → ◌≡◌ {A = ℕ} (pick a 1 (pick b 10 0)) 6 → ⊥
    by true b e = omega (arith, e)
    by false true e = omega (arith, e)
    by false false e = omega (arith, e)

first_not_6 : (r k : ℕ) → (r ≡ 6 → ⊥) → (k ≡ 6 → ⊥) → first_refusal r k ≡ 6 → ⊥
first_not_6 r k p q = by (eqb r 0)
  where
    by : (none : Bool) → pick none k r ≡ 6 → ⊥
    by true = q
    by false = p

module _ (t : List ℕ) (c : Counts) (accepted : check t ≡ Ok c) (bt : Bytes t) (b : Book) (m : List ℕ) (f : Follows t c b m) where
  -- the layer's own number, from the book alone
  pub refusal_is : (fits : Bool) → refusal t m fits ≡ pick fits (pick b.stopped 7 0) 6
  unfolding refusal
  refusal_is true = rw (admission_is t c accepted bt b m f (describe (receive 0))) (by b.stopped)
    where
      by : (stopped : Bool) → refusal_of (pick stopped (Err Stopped) (Ok c)) ≡ pick stopped 7 0
      by true = refl
      by false = refl
  refusal_is false = rw (admission_is t c accepted bt b m f (describe (send 0 0 [])))

  own_not_6 : (fits : Bool) → fits ≡ true → refusal t m fits ≡ 6 → ⊥
  own_not_6 fits right = rw (refusal_is fits, right) (by b.stopped)
    where
      by : (stopped : Bool) → ◌≡◌ {A = ℕ} (pick stopped 7 0) 6 → ⊥
      by true e = omega (arith, e)
      by false e = omega (arith, e)

  pub begin_not_6 : (g : BeginGiven) → leb sheet_size (length g.sheet) ≡ true → (begun_by t g m).reply.number ≡ 6 → ⊥
  begin_not_6 g fits = rw (begin_number_lem t g m) (first_not_6 _ _ (own_not_6 _ fits) (objects_not_6 t m g.objects))

  pub drain_not_6 : (d : DrainGiven) → (sheet_in_range d.sheet && leb text_size (length d.text)) ≡ true → (drained_by t d m).reply.number ≡ 6 → ⊥
  drain_not_6 d fits = rw (drain_number_lem t d m) (first_not_6 _ _ (own_not_6 _ fits) (objects_not_6 t m (objects_in (followed_at d.sheet) d.sheet)))
