-- Of an indication's bytes more than eight are as good as any other more than eight: the length of an I-PDU is at most 8.
-- Assumes nothing.
use Rattle.std.proofs.Common.{Bool, true, false, ◌&&◌, List, [], ⊎_elim, ◌≡◌, refl, ap, ℕ, ◌<◌, arith, ltb-true, ne_eqb, ltb, leb, eqb, length, Result, Err, Ok}
use Rattle.memory.proofs.Search.{picked}
use Rattle.memory.proofs.Tests.{and_split, true_or_false}
use Rattle.table.specs.declared.Counts.{Counts}
use Rattle.table.specs.declared.WrongRecord.{WrongRecord}
use Rattle.table.specs.Check.{check, Right}
use Rattle.table.specs.Records.{receiving, ipdu_record}
use Rattle.table.proofs.Accepted.{accepted_right}
use Rattle.state.specs.Layout.{memory_size, running_at}
use Rattle.state.specs.Ranges.{in_range}
use Rattle.calls.specs.Answers.{Outcome, outcome}
use Rattle.calls.specs.Calls.{is_ipdu, indication_of, indication_in}
use Rattle.calls.proofs.Records.{ipdu_short}
use Rattle.layer.specs.Admission.{Admission}
use Rattle.layer.specs.Admission.{working_memory, admission_of, admission, on_working_memory, if_admitted}
use Rattle.layer.specs.Step.{step, indication}
use Rattle.script.specs.declared.Ask.TheVariants.{Receive, Status, Marks, ClearMarks}
use Rattle.script.specs.declared.Command.{Command}
use Rattle.script.specs.declared.Command.TheVariants.{Start, Stop, Send, Initialise, Object, Periodic, Indication, Confirm, Tick}
use Rattle.script_run.specs.Script.{effect}

module _ (t : List ℕ) (k : ℕ) (x y : List ℕ) (long_x : 8 < length x) (long_y : 8 < length y) where
  indication_of_long : (c : Counts) → Right t c → k < c.ipdus → (good : Bool) (m : List ℕ)
      → indication_of good t c k x m ≡ indication_of good t c k y m
  indication_of_long c right low true m =
      let short = ipdu_short t c right k low in
      rw (ne_eqb (length x) (ipdu_record t k).length (λ e. omega (arith, e)), ne_eqb (length y) (ipdu_record t k).length (λ e. omega (arith, e)))
  indication_of_long c right low false m = refl

  indication_in_long : (c : Counts) → Right t c → (good : Bool) (m : List ℕ) → indication_in t c k good x m ≡ indication_in t c k good y m
  unfolding indication_in
  indication_in_long c right good m =
      ⊎_elim
      (λ (is : is_ipdu t c receiving k ≡ true).
      let low = ltb-true k c.ipdus (and_split (ltb k c.ipdus) (eqb (ipdu_record t k).direction receiving) is).0 in
      rw is (indication_of_long c right low good m))
      (λ (is : is_ipdu t c receiving k ≡ false). rw is)
      (true_or_false (is_ipdu t c receiving k))

  pub indication_long : (good : Bool) (m : List ℕ) → step t (indication k good x) m ≡ step t (indication k good y) m
  unfolding step admission
  indication_long good m = go (check t) refl
    where
      Same : Admission → Type 0
      Same a = if_admitted a m [] (λ c. indication_in t c k good x) ≡ if_admitted a m [] (λ c. indication_in t c k good y)

      go : (v : Result Counts WrongRecord) → check t ≡ v → Same (admission_of v t m true)
      go (Err wrong) e = refl
      go (Ok c) e =
          let same = indication_in_long c (accepted_right t c e) good (working_memory m) in
          let admitted : on_working_memory (indication_in t c k good x) m ≡ on_working_memory (indication_in t c k good y) m = rw same in
          picked Same (leb memory_size (length m) && true) _ _
          (λ l. picked Same (in_range t c (working_memory m)) _ _ (λ r. picked Same (eqb (running_at (working_memory m)) 0) _ _ (λ z. refl) (λ z. admitted)) (λ r. refl))
          (λ l. refl)

pub effect_long : (t : List ℕ) (command : Command) (x y area m : List ℕ) → 8 < length x → 8 < length y
    → effect t command x area m ≡ effect t command y area m
unfolding effect
effect_long t Start x y area m long_x long_y = refl
effect_long t Stop x y area m long_x long_y = refl
effect_long t (Send i v) x y area m long_x long_y = refl
effect_long t (Initialise i v) x y area m long_x long_y = refl
effect_long t (Object Receive i) x y area m long_x long_y = refl
effect_long t (Object Status i) x y area m long_x long_y = refl
effect_long t (Object Marks i) x y area m long_x long_y = refl
effect_long t (Object ClearMarks i) x y area m long_x long_y = refl
effect_long t (Periodic true) x y area m long_x long_y = refl
effect_long t (Periodic false) x y area m long_x long_y = refl
effect_long t (Indication k good) x y area m long_x long_y =
    ap (λ (o : Outcome). outcome o.answer o.memory area) (indication_long t k.0 x y long_x long_y good m)
effect_long t (Confirm k good) x y area m long_x long_y = refl
effect_long t Tick x y area m long_x long_y = refl
