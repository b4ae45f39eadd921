-- From a right header to the table's shape, and from what the searches found to what the check answers.
-- Assumes nothing.
use Rattle.std.proofs.Common.{Ok, Err, true, List, [], ◌∷◌, ⊎_elim, ◌≡◌, ℕ, ◌≤◌, ◌<◌, arith, leb-true, eqb-true, lt-ltb, le-ltb, ltb-true, leb, ltb, eqb, length}
use borrow.Author.Tests.{not-false}
use Rattle.memory.specs.Bytes.{number_at}
use Rattle.memory.specs.Search.{least}
use Rattle.memory.proofs.Search.{least_before}
use Rattle.memory.proofs.Tests.{and_split, each_true, true_or_false}
use Rattle.table.specs.declared.Counts.{Counts}
use Rattle.table.specs.declared.IpduNumber.{IpduNumber}
use Rattle.table.specs.declared.ObjectNumber.{ObjectNumber}
use Rattle.table.specs.declared.WrongRecord.TheVariants.{Ipdu, Object}
use Rattle.table.specs.Records.{most_ipdus, most_objects, ipdu_base, object_base, table_length, counts}
use Rattle.table.specs.Rules.{offsets_right, header_right}
use Rattle.table.specs.Check.{Shape, wrong_ipdu, wrong_object, check_objects, check_ipdus, check_records, check, place_of}
use Rattle.table.specs.Inner.{IpdusRight}

pub header_long : (t : List ℕ) → header_right t ≡ true → 16 ≤ length t
unfolding header_right
header_long t e = leb-true 16 (length t) (and_split (leb 16 (length t)) (offsets_right t (counts t)) e).0

pub header_shape : (t : List ℕ) → header_right t ≡ true → Shape t (counts t)
unfolding header_right offsets_right
header_shape t e =
    let c = counts t in
    let all =
    each_true (leb c.ipdus most_ipdus)
    (leb c.objects most_objects ∷ eqb (number_at 2 4 t) ipdu_base ∷ eqb (number_at 2 6 t) (object_base c.ipdus)
    ∷ eqb (number_at 2 8 t) (table_length c.ipdus c.objects) ∷ eqb (number_at 2 10 t) 0 ∷ eqb (number_at 4 12 t) 0
    ∷ eqb (length t) (table_length c.ipdus c.objects) ∷ [])
    (and_split (leb 16 (length t)) _ e).1 in
    search (leb-true, eqb-true)

pub counts_shape : (t : List ℕ) {c : Counts} → header_right t ≡ true → c ≡ counts t → Shape t c
counts_shape t h e = rw e (header_shape t h)

-- ---- what the check answers, from what the searches found

pub none_found : (t : List ℕ) (c : Counts) → least c.ipdus (wrong_ipdu t) ≡ c.ipdus → IpdusRight t c
none_found t c none =
    record { each = λ j low. not-false _ (least_before c.ipdus (wrong_ipdu t) j (omega (arith, none, low))) }

module _ (t : List ℕ) (c : Counts) (h : header_right t ≡ true) (here : c ≡ counts t) where
  pub names_ipdu : {w : IpduNumber} → least c.ipdus (wrong_ipdu t) < c.ipdus → w ≡ record { 0 = least c.ipdus (wrong_ipdu t) } → Err (Ipdu w) ≡ check t
  unfolding check
  names_ipdu wrong named = rw (h, named, ← here, lt-ltb (least c.ipdus (wrong_ipdu t)) c.ipdus wrong)

  module _ (none : c.ipdus ≤ least c.ipdus (wrong_ipdu t)) where
    pub names_object : {w : ObjectNumber} → least c.objects (wrong_object t c) < c.objects
        → w ≡ record { 0 = least c.objects (wrong_object t c) } → Err (Object w) ≡ check t
    unfolding check
    names_object wrong named =
        rw (h, named, ← here, le-ltb (least c.ipdus (wrong_ipdu t)) c.ipdus none, lt-ltb (least c.objects (wrong_object t c)) c.objects wrong)

    pub accepts : c.objects ≤ least c.objects (wrong_object t c) → Ok c ≡ check t
    unfolding check
    accepts right =
        rw (h, ← here, le-ltb (least c.ipdus (wrong_ipdu t)) c.ipdus none, le-ltb (least c.objects (wrong_object t c)) c.objects right)

-- a place is at most the header's
pub place_bound : (t : List ℕ) → place_of (check t) ≤ 65535
unfolding check
place_bound t =
    ⊎_elim (λ h. rw h (within (header_shape t h))) (λ h. rw h (omega arith)) (true_or_false (header_right t))
  where
    objects : Shape t (counts t) → (i : ℕ) → place_of (check_objects t (counts t) i) ≤ 65535
    objects shape i =
        ⊎_elim
        (λ h. rw h (omega (arith, ltb-true i (counts t).objects h, shape.objects)))
        (λ h. rw h (omega arith))
        (true_or_false (ltb i (counts t).objects))

    ipdus : Shape t (counts t) → (k : ℕ) → place_of (check_ipdus t (counts t) k) ≤ 65535
    ipdus shape k =
        ⊎_elim
        (λ h. rw h (omega (arith, ltb-true k (counts t).ipdus h, shape.ipdus)))
        (λ h. rw h (objects shape (least (counts t).objects (wrong_object t (counts t)))))
        (true_or_false (ltb k (counts t).ipdus))

    within : Shape t (counts t) → place_of (check_records t (counts t)) ≤ 65535
    within shape = ipdus shape (least (counts t).ipdus (wrong_ipdu t))
