-- What a call answers once it is admitted: refused, it leaves all lent bytes; and it answers no 6.
-- Assumes nothing.
use Rattle.std.proofs.Common.{Bool, true, false, not, ◌&&◌, List, [], ◌≡◌, refl, ℕ, arith, ltb, eqb, length, Err}
use Rattle.memory.specs.Search.{pick}
use Rattle.memory.proofs.Search.{picked}
use Rattle.table.specs.declared.Counts.{Counts}
use Rattle.table.specs.Records.{receiving, sending, ipdu_record, object_record}
use Rattle.state.specs.Layout.{object_state, ipdu_state}
use Rattle.message.specs.Objects.{object, passes_filter}
use Rattle.queue.specs.Queues.{oldest, dequeue}
use Rattle.delivery.specs.Delivery.{deliver_inside}
use Rattle.calls.specs.Answers.{Answer}
use Rattle.calls.specs.Answers.{done_with, limit_with}
use Rattle.calls.specs.declared.Refusal.TheVariants.{WrongId, WrongLength, NoMessage, NotRequested}
use Rattle.calls.specs.Answers.{Outcome, outcome, number_of}
use Rattle.calls.specs.Calls.{is_object, is_ipdu, wants, request, send_of, send_in, initialise_in, receive_in, status_in, marks_in, clear_marks_in, indication_in, confirm_in}
use Rattle.layer.specs.Step.{Call, send, initialise, receive, status, marks, clear_marks, indication, confirm}
use Rattle.trace.specs.Refusals.{Unchanged, IsRefused}

pub record Answered (call : Call) (m area : List ℕ) (o : Outcome) : Type 0 where
  pub leaves : IsRefused call o → Unchanged m area o
  pub not_six : number_of o.answer ≡ 6 → ⊥

module _ (call : Call) (m area : List ℕ) where
  pub did : (v : ℕ) (n other : List ℕ) → Answered call m area (outcome (done_with v) n other)
  did v n other = record { leaves = λ r. absurd (r.0 refl); not_six = λ e. omega (arith, e) }

  as_found : (a : Answer) → (number_of a ≡ 6 → ⊥) → Answered call m area (outcome a m area)
  as_found a six = record { leaves = λ r. record { memory = refl; area = refl }; not_six = six }

  wrong_id : Answered call m area (outcome (Err WrongId) m area)
  wrong_id = as_found (Err WrongId) (λ e. omega (arith, e))

  either : (b : Bool) (x y : Outcome) → Answered call m area x → Answered call m area y → Answered call m area (pick b x y)
  either b x y p q = picked (Answered call m area) b x y (λ e. p) (λ e. q)

-- ---- each call that refuses by itself

module _ (t : List ℕ) (c : Counts) (m : List ℕ) where
  pub send_answered : (i v : ℕ) (area : List ℕ) → Answered (send i v area) m area (send_in t c i v area m)
  unfolding send_in send_of request
  send_answered i v area =
      let call = send i v area in
      either call m area (is_object t c sending i) _ _
      (either call m area (passes_filter (object t c i) v (object_state (deliver_inside t c i v m) i)) _ _
      (either call m area (wants t (object t c i)) _ _ (did call m area _ _ _) (did call m area 0 _ area))
      (did call m area 0 _ area))
      (wrong_id call m area)

  pub initialise_answered : (i v : ℕ) → Answered (initialise i v) m [] (initialise_in t c i v m)
  unfolding initialise_in
  initialise_answered i v =
      let call = initialise i v in
      either call m [] (ltb i c.objects) _ _ (did call m [] 0 _ []) (wrong_id call m [])

  -- a receive that gives 3 is not refused
  limited_answered : (i v : ℕ) (n : List ℕ) (b : Bool) → Answered (receive i) m [] (outcome (pick b (done_with v) (limit_with v)) n [])
  limited_answered i v n true = did (receive i) m [] v n []
  limited_answered i v n false = record { leaves = λ r. absurd (r.1 refl i refl); not_six = λ e. omega (arith, e) }

  pub receive_answered : (i : ℕ) → Answered (receive i) m [] (receive_in t c i m)
  unfolding receive_in
  receive_answered i =
      let call = receive i in
      either call m [] (is_object t c receiving i) _ _
      (either call m [] (eqb (object_record t c.ipdus i).depth 0) _ _ (did call m [] _ _ _)
      (either call m [] (eqb (object_state m i).count 0) _ _ (as_found call m [] (Err NoMessage) (λ e. omega (arith, e)))
      (limited_answered i (oldest (object_record t c.ipdus i).depth i m) (dequeue (object_record t c.ipdus i).depth i m) (eqb (object_state m i).overflow 0))))
      (wrong_id call m [])

  status_six : (a b : Bool) → number_of (pick a (Err NoMessage) (pick b (done_with 0) (limit_with 0))) ≡ 6 → ⊥
  status_six true b e = omega (arith, e)
  status_six false true e = omega (arith, e)
  status_six false false e = omega (arith, e)

  pub status_answered : (i : ℕ) → Answered (status i) m [] (status_in t c i m)
  unfolding status_in
  status_answered i =
      let call = status i in
      either call m [] (is_object t c receiving i && not (eqb (object_record t c.ipdus i).depth 0)) _ _
      (as_found call m [] _ (status_six (eqb (object_state m i).count 0) (eqb (object_state m i).overflow 0)))
      (wrong_id call m [])

  pub marks_answered : (i : ℕ) → Answered (marks i) m [] (marks_in c i m)
  unfolding marks_in
  marks_answered i =
      let call = marks i in
      either call m [] (ltb i c.objects) _ _ (did call m [] _ _ []) (wrong_id call m [])

  pub clear_marks_answered : (i : ℕ) → Answered (clear_marks i) m [] (clear_marks_in c i m)
  unfolding clear_marks_in
  clear_marks_answered i =
      let call = clear_marks i in
      either call m [] (ltb i c.objects) _ _ (did call m [] 0 _ []) (wrong_id call m [])

  pub indication_answered : (k : ℕ) (good : Bool) (bytes : List ℕ) → Answered (indication k good bytes) m [] (indication_in t c k good bytes m)
  unfolding indication_in
  indication_answered k true bytes =
      let call = indication k true bytes in
      either call m [] (is_ipdu t c receiving k) _ _
      (either call m [] (eqb (length bytes) (ipdu_record t k).length) _ _ (did call m [] 0 _ _) (as_found call m [] (Err WrongLength) (λ e. omega (arith, e))))
      (wrong_id call m [])
  indication_answered k false bytes =
      let call = indication k false bytes in
      either call m [] (is_ipdu t c receiving k) _ _ (did call m [] 0 _ _) (wrong_id call m [])

  pub confirm_answered : (k : ℕ) (good : Bool) → Answered (confirm k good) m [] (confirm_in t c k good m)
  unfolding confirm_in
  confirm_answered k good =
      let call = confirm k good in
      either call m [] (is_ipdu t c sending k) _ _
      (either call m [] (eqb (ipdu_state m k).requested 0) _ _ (as_found call m [] (Err NotRequested) (λ e. omega (arith, e))) (did call m [] 0 _ _))
      (wrong_id call m [])
