-- Demand 3: the claim holds of every table.
-- Assumes: the table holds bytes, and arguments are of the types that the calls take (`TypedAction`).
use Rattle.std.proofs.Common.{true, List, ◌≡◌, refl, ap, ℕ}
use Rattle.memory.specs.Bytes.{Bytes}
use Rattle.table.specs.Records.{counts}
use Rattle.calls.specs.Answers.{number_of, value_of}
use Rattle.layer.specs.Step.{start, step}
use Rattle.trace.specs.Book.{unopened, opened, advance}
use Rattle.trace.specs.Demand3.{done, CallKept, Demand3}
use Rattle.trace.proofs.FramesInArea.{in_area_none}
use Rattle.trace.proofs.Steps.{start_accepted, start_follows}
use Rattle.trace.proofs.ActionsKept.{actions_kept}
use Rattle.trace.proofs.Noninterference.{start_same}
use Rattle.trace.proofs.ActionsSame.{actions_same}

-- the accepted start that a list begins with
first_kept : (t m : List ℕ) → done (step t start m) ≡ true → CallKept t (counts t) unopened start (step t start m)
first_kept t m e = record { judged = e; named = λ k z. absurd (in_area_none k z); bits = λ k z. absurd (in_area_none k z) }

pub demand_3 : (t : List ℕ) → Bytes t → Demand3 t
unfolding advance
demand_3 t bt xs ys p q m n em en =
    let a = start_accepted t m em in
    let z = start_accepted t n en in
    let f = start_follows t (counts t) a.table bt m a.long in
    let g = start_follows t (counts t) a.table bt n z.long in
    let w = start_same t (counts t) a.table bt m n a.long z.long in (
      (first_kept t m em, actions_kept t (counts t) a.table bt xs p (opened t (counts t)) (step t start m).memory f),
      λ alike. (
        record {
          number = ap number_of w.answer;
          value = ap value_of w.answer;
          word = refl;
          frames = λ k e. absurd (in_area_none k e);
        },
        actions_same t (counts t) a.table bt xs ys p q (opened t (counts t)) (step t start m).memory (step t start n).memory f g w.memory alike.1,
      ),
    )
