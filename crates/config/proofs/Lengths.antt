-- The length of an I-PDU by what the check answered: what `ipdu_length` has at hand in each case.
-- Assumes nothing.
use Rattle.std.proofs.Common.{List, Result, Ok, Err, Option, Some, None, ◌≡◌, refl, sym, ◌∙◌, ℕ, ◌≤◌, ◌<◌, lt-ltb, le-ltb}
use Rattle.std.specs.Result.{result_ok}
use Rattle.table.specs.declared.Counts.{Counts}
use Rattle.table.specs.declared.IpduRecord.{IpduRecord}
use Rattle.table.specs.declared.WrongRecord.{WrongRecord}
use Rattle.table.specs.Records.{ipdu_record}
use Rattle.table.specs.Check.{Shape, check}
use Rattle.config.specs.Decode.{length_by, ipdu_length}
use Rattle.table.proofs.Facts.{ipdu_facts}
use Rattle.table.proofs.Accepted.{accepted_right}

pub length_as : (t : List ℕ) (k r : ℕ) (v w : Result Counts WrongRecord) → v ≡ check t → v ≡ w → r ≡ length_by w t k → r ≡ ipdu_length t k
unfolding ipdu_length
length_as t k r v w checks is e = rw (← checks, is) e

-- the check's answer `v`, of which the code keeps the counts, `o`
module _ (t : List ℕ) {v : Result Counts WrongRecord} (checks : v ≡ check t) {o : Option Counts} (kept : o ≡ result_ok v) where
  accepted : {c : Counts} → o ≡ Some c → check t ≡ Ok c
  accepted {c} some = sym checks ∙ by v (sym kept ∙ some)
    where
      by : (w : Result Counts WrongRecord) → result_ok w ≡ Some c → w ≡ Ok c
      by (Ok d) e = cc
      by (Err w) e = absurd cc

  pub no_length : o ≡ None → (k : ℕ) → ipdu_length t k ≡ 0
  no_length none k = by v refl (sym kept ∙ none)
    where
      by : (w : Result Counts WrongRecord) → v ≡ w → result_ok w ≡ None → ipdu_length t k ≡ 0
      by (Ok d) is e = absurd cc
      by (Err w) is e = sym (length_as t k 0 v (Err w) checks is refl)

  module _ {c : Counts} (some : o ≡ Some c) where
    pub table_shape : Shape t c
    table_shape = (accepted_right t c (accepted some)).shape

    pub length_past : (k : ℕ) → c.ipdus ≤ k → ipdu_length t k ≡ 0
    length_past k past = sym (length_as t k 0 (check t) (Ok c) refl (accepted some) (rw (le-ltb k c.ipdus past)))

    pub length_there : (k : ℕ) → k < c.ipdus → {r : IpduRecord} → r ≡ ipdu_record t k → (r.length ≡ ipdu_length t k) × (1 ≤ r.length)
    length_there k here {r} e = (
      length_as t k r.length (check t) (Ok c) refl (accepted some) (rw (lt-ltb k c.ipdus here, e)),
      rw e (ipdu_facts (ipdu_record t k) ((accepted_right t c (accepted some)).ipdus k here)).least,
    )
