-- The rows of all I-PDUs, then in one walk the marks of those whose time ran out, come to what the definition of tick says, which marks I-PDU by
-- I-PDU: marks touch no row of an I-PDU and no slot, so that the row of an I-PDU may be ticked before the marks of those below it.
-- Assumes nothing.
use Rattle.std.proofs.Common.{Bool, true, false, List, ◌≡◌, refl, sym, ap, ◌∙◌, ℕ, zero, suc, ◌+◌, ◌^◌, ◌≤◌, ◌<◌, add-zero, arith, ne_eqb, eqb, length}
use Rattle.memory.specs.Search.{pick}
use Rattle.table.specs.declared.Counts.{Counts}
use Rattle.table.specs.Records.{most_ipdus, sending, absent, ipdu_record, object_record}
use Rattle.table.specs.Check.{Right}
use Rattle.table.proofs.Accepted.{usable}
use Rattle.config.specs.declared.Direction.{Direction}
use Rattle.config.specs.declared.Direction.TheVariants.{Send, Receive}
use Rattle.config.specs.Decode.{ipdu_of}
use Rattle.state.specs.Layout.{memory_size, ipdu_state, slot_at}
use Rattle.state.specs.Ranges.{Ready}
use Rattle.message.specs.Objects.{mark_receive_error, mark_send_error}
use Rattle.delivery.specs.Delivery.{mark_objects}
use Rattle.delivery.specs.Due.{time_error, mark_due}
use Rattle.transmission.specs.Requests.{ipdu, after_request, copied_to_area}
use Rattle.timing.specs.Ticks.{tick_delay, tick_deadline, tick_period, tick_timer}
use Rattle.calls.specs.Answers.{done_with}
use Rattle.calls.specs.Answers.{Outcome, outcome}
use Rattle.calls.specs.Tick.{TickResult, tick_as, tick_ipdu, tick_result, joined, tick_turn, ticks, tick_in}
use Rattle.calls.proofs.Ticks.{ipdu_few}
use Rattle.ipdu_calls.specs.RowTicks.{row_tick_as, row_tick, expires_as, due_bit_as, due_bit, row_ticks, due_word}
use Rattle.delivery.proofs.Marks.{due_part, due_keeps_ipdus, ipdu_past_due, none_due, one_more_due}
use Rattle.ipdu_calls.proofs.RowTicks.{due_low, rows_long}

-- the error of a time that ran out, by the direction of the I-PDU
abbrev error_as : Direction → ℕ
error_as Send = mark_send_error
error_as Receive = mark_receive_error

error_by : (sends : Bool) → error_as (pick sends Send Receive) ≡ pick sends mark_send_error mark_receive_error
error_by true = refl
error_by false = refl

-- marks made last
abbrev marks_after : List ℕ → Counts → ℕ → Outcome → Outcome
marks_after t c word o = outcome o.answer (mark_due t c word o.memory) o.area

abbrev pub marks_last : List ℕ → Counts → ℕ → TickResult → TickResult
marks_last t c word a = tick_result a.word (mark_due t c word a.memory) a.area

module _ (t : List ℕ) (c : Counts) (right : Right t c) where
  -- in a right table an object has the error of its I-PDU
  own_error : (k : ℕ) → k < c.ipdus → (i : ℕ) → i < c.objects → (object_record t c.ipdus i).ipdu ≡ k
      → error_as (ipdu t k).direction ≡ time_error (object_record t c.ipdus i)
  unfolding ipdu_of
  own_error k low i h e =
      let some : eqb (object_record t c.ipdus i).ipdu absent ≡ false =
      ne_eqb (object_record t c.ipdus i).ipdu absent (λ none. omega (arith, none, e, low, right.shape.ipdus)) in
      let kind : (ipdu_record t k).direction ≡ (object_record t c.ipdus i).kind = rw e at ((usable t c right i h).ipdu some).1 in
      rw (← kind) (error_by (eqb (ipdu_record t k).direction sending))

  -- one I-PDU more, after the marks of a word of those below it
  module _ (k : ℕ) (h : k < c.ipdus) (area m : List ℕ) (long : memory_size ≤ length m) (word : ℕ) (fits : word < 2 ^ k) where
    low : k < most_ipdus
    low = omega (arith, h, right.shape.ipdus)

    abbrev OwnError : ℕ → Type 0
    OwnError mark = (i : ℕ) → i < c.objects → (object_record t c.ipdus i).ipdu ≡ k → mark ≡ time_error (object_record t c.ipdus i)

    marks_join : (mark : ℕ) → OwnError mark → (due : Bool)
        → pick due (mark_objects t c k mark (mark_due t c word m)) (mark_due t c word m) ≡ mark_due t c (word + pick due (2 ^ k) 0) m
    marks_join mark own true = one_more_due t c right.shape k mark word low fits own m long
    marks_join mark own false = rw (add-zero word)

    few : (ipdu t k).length.0 ≤ 8
    few = ipdu_few t c k right h

    tick_by : (d : Direction) → OwnError (error_as d)
        → tick_as d t c k area (mark_due t c word m) ≡ marks_after t c (word + due_bit_as d k m) (row_tick_as d (ipdu t k) k area m)
    unfolding copied_to_area
    tick_by Send own =
        let next = tick_period (ipdu t k) (tick_deadline (tick_delay (ipdu_state m k))) in
        let all = word + due_bit_as Send k m in
        rw (
          due_keeps_ipdus t c right.shape word m long k low,
          marks_join mark_send_error own (expires_as Send (ipdu_state m k)),
          ipdu_past_due t c right.shape all m long k (after_request (ipdu t k) next) low,
          due_part t c right.shape all m long (slot_at k) (ipdu t k).length.0 (omega (arith, low, few)),
        )
    tick_by Receive own =
        let all = word + due_bit_as Receive k m in
        rw (
          due_keeps_ipdus t c right.shape word m long k low,
          marks_join mark_receive_error own (expires_as Receive (ipdu_state m k)),
          ipdu_past_due t c right.shape all m long k (tick_timer (ipdu t k) (ipdu_state m k)) low,
        )

    tick_more : tick_ipdu t c k area (mark_due t c word m) ≡ marks_after t c (word + due_bit t k m) (row_tick t k area m)
    unfolding tick_ipdu row_tick due_bit
    tick_more = tick_by (ipdu t k).direction (own_error k h)

  -- the I-PDUs below n by the definition: their rows, then their marks
  pub marked_once : (area m : List ℕ) → memory_size ≤ length m → (n : ℕ) → n ≤ c.ipdus
      → ticks t c n area m ≡ marks_last t c (due_word t n area m) (row_ticks t n area m)
  marked_once area m long zero h = ap (λ (n : List ℕ). tick_result 0 n area) (sym (none_due t c right.shape m))
  marked_once area m long (suc n) h =
      let before = row_ticks t n area m in
      ap (tick_turn t c n) (marked_once area m long n (omega arith))
      ∙ ap (joined before.word)
      (tick_more n h before.area before.memory (rows_long t n area m (omega (arith, h, right.shape.ipdus)) long)
      (due_word t n area m) (due_low t n area m))

-- the loop over all I-PDUs, and the marks where there are any
module _ (t : List ℕ) (c : Counts) (k w due : ℕ) (area m area₀ m₀ : List ℕ) (ready : Ready t c m₀) (most : k ≤ c.ipdus) (least : c.ipdus ≤ k)
    (so : tick_result w m area ≡ row_ticks t k area₀ m₀) (dues : due ≡ due_word t k area₀ m₀) where
  pub ticked_marked : (n : List ℕ) → n ≡ mark_due t c due m → outcome (done_with w) n area ≡ tick_in t c area₀ m₀
  unfolding tick_in
  ticked_marked n marks =
      let all : k ≡ c.ipdus = omega arith in
      let last : tick_result w n area ≡ ticks t c k area₀ m₀ =
      rw (marks, dues)
      (ap (marks_last t c (due_word t k area₀ m₀)) so ∙ sym (marked_once t c ready.right area₀ m₀ (omega (arith, ready.long)) k most)) in
      ap (λ (a : TickResult). outcome (done_with a.word) a.memory a.area) (rw all at last)

  pub ticked_unmarked : due ≡ 0 → outcome (done_with w) m area ≡ tick_in t c area₀ m₀
  ticked_unmarked none = ticked_marked m (rw none (sym (none_due t c ready.right.shape m)))
