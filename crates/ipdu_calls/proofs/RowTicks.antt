-- Ticks that mark nothing: the words of those requested and of those whose time ran out, the length of memory, one I-PDU more, and what the
-- steps of one I-PDU give. Assumes nothing.
use Rattle.std.proofs.Common.{List, [], ◌≡◌, sym, ap, ◌∙◌, ℕ, zero, suc, ◌+◌, ◌^◌, ◌≤◌, ◌<◌, add-one, arith, length}
use Rattle.memory.specs.Search.{pick}
use Rattle.memory.proofs.Search.{fold_keeps, turn_more}
use Rattle.config.specs.declared.Direction.{Direction}
use Rattle.config.specs.declared.Direction.TheVariants.{Send, Receive}
use Rattle.config.specs.declared.Ipdu.{Ipdu}
use Rattle.table.specs.declared.Counts.{Counts}
use Rattle.table.specs.Check.{Right}
use Rattle.table.specs.Records.{most_ipdus}
use Rattle.state.specs.declared.IpduState.{IpduState}
use Rattle.state.specs.Layout.{memory_size, ipdu_state, with_ipdu_state}
use Rattle.state.proofs.RowLaws.{ipdu_length_lem}
use Rattle.transmission.specs.Requests.{ipdu, is_due, after_request, copied_to_area}
use Rattle.timing.specs.Ticks.{tick_delay, tick_deadline, tick_period, tick_timer}
use Rattle.calls.specs.Answers.{done_with}
use Rattle.calls.specs.Answers.{Outcome, outcome, value_of}
use Rattle.calls.specs.Tick.{TickResult, tick_result, joined}
use Rattle.calls.proofs.Ticks.{bit_most, word_more, word_fits}
use Rattle.ipdu_calls.specs.RowTicks.{row_tick_as, row_tick, expires_as, due_bit_as, due_bit, row_turn, row_ticks, due_word}

due_most : (t : List ℕ) (k : ℕ) (m : List ℕ) → due_bit t k m ≤ 2 ^ k
unfolding due_bit
due_most t k m = bit_most (expires_as (ipdu t k).direction (ipdu_state m k)) k

row_most : (t : List ℕ) (k : ℕ) (area m : List ℕ) → value_of (row_tick t k area m).answer ≤ 2 ^ k
unfolding row_tick
row_most t k area m = by (ipdu t k).direction
  where
    by : (d : Direction) → value_of (row_tick_as d (ipdu t k) k area m).answer ≤ 2 ^ k
    by Send = bit_most (is_due (ipdu t k) (tick_period (ipdu t k) (tick_deadline (tick_delay (ipdu_state m k))))) k
    by Receive = omega arith

-- ---- all below n

-- a word of n bits
pub due_low : (t : List ℕ) (n : ℕ) (area m : List ℕ) → due_word t n area m < 2 ^ n
due_low t zero area m = omega arith
due_low t (suc n) area m =
    rw (add-one n) at
    (word_more n (due_word t n area m) (due_bit t n (row_ticks t n area m).memory) (due_low t n area m) (due_most t n (row_ticks t n area m).memory))

row_long : (t : List ℕ) (k : ℕ) (area m : List ℕ) → k < most_ipdus → memory_size ≤ length m → memory_size ≤ length (row_tick t k area m).memory
unfolding row_tick
row_long t k area m low long = by (ipdu t k).direction
  where
    by : (d : Direction) → memory_size ≤ length (row_tick_as d (ipdu t k) k area m).memory
    by Send =
        let next = tick_period (ipdu t k) (tick_deadline (tick_delay (ipdu_state m k))) in
        omega (arith, ipdu_length_lem m k (after_request (ipdu t k) next) (omega arith))
    by Receive = omega (arith, ipdu_length_lem m k (tick_timer (ipdu t k) (ipdu_state m k)) (omega arith))

pub rows_long : (t : List ℕ) (n : ℕ) (area m : List ℕ) → n ≤ most_ipdus → memory_size ≤ length m → memory_size ≤ length (row_ticks t n area m).memory
rows_long t n area m few =
    fold_keeps (λ (a : TickResult). memory_size ≤ length a.memory) n (row_turn t)
    (λ k h a. row_long t k a.area a.memory (omega (arith, h, few))) (tick_result 0 m area)

-- ---- one I-PDU more

module _ (t : List ℕ) (k w v : ℕ) (area m b n : List ℕ) (does : outcome (done_with v) n b ≡ row_tick t k area m) where
  pub row_word_more : w < 2 ^ k → w + v < 2 ^ (k + 1)
  row_word_more low = word_more k w v low (rw (ap (λ (o : Outcome). value_of o.answer) does) (row_most t k area m))

  pub row_word_fits : (c : Counts) → Right t c → k < c.ipdus → w < 2 ^ k → w + v < 2 ^ 32
  row_word_fits c right h low = word_fits (k + 1) (w + v) (omega (arith, h, right.shape.ipdus)) (row_word_more low)

  pub row_more : (area₀ m₀ : List ℕ) → tick_result w m area ≡ row_ticks t k area₀ m₀ → tick_result (w + v) n b ≡ row_ticks t (k + 1) area₀ m₀
  row_more area₀ m₀ so = turn_more (row_turn t) k (tick_result w m area) (tick_result 0 m₀ area₀) so (tick_result (w + v) n b) (ap (joined w) does)

module _ (t : List ℕ) (k due d : ℕ) (m : List ℕ) (bit : d ≡ due_bit t k m) where
  pub due_word_more : due < 2 ^ k → due + d < 2 ^ (k + 1)
  due_word_more low = word_more k due d low (rw bit (due_most t k m))

  pub due_word_fits : (c : Counts) → Right t c → k < c.ipdus → due < 2 ^ k → due + d < 2 ^ 32
  due_word_fits c right h low = word_fits (k + 1) (due + d) (omega (arith, h, right.shape.ipdus)) (due_word_more low)

  pub due_more : (w : ℕ) (area area₀ m₀ : List ℕ) → tick_result w m area ≡ row_ticks t k area₀ m₀ → due ≡ due_word t k area₀ m₀
      → due + d ≡ due_word t (k + 1) area₀ m₀
  due_more w area area₀ m₀ so e = rw (add-one k, e, bit, ap (λ (a : TickResult). a.memory) so)

-- ---- what the steps of a send I-PDU give

pub sent_row : (m : List ℕ) (k : ℕ) (p : Ipdu) (r s d next : IpduState) → r ≡ ipdu_state m k → s ≡ tick_delay r → d ≡ tick_deadline s
    → next ≡ tick_period p d → (v : ℕ) (n area b : List ℕ)
    → v ≡ pick (is_due p next) (2 ^ k) 0 → n ≡ with_ipdu_state m k (after_request p next)
    → b ≡ pick (is_due p next) (copied_to_area p.length.0 k m area) area → outcome (done_with v) n b ≡ row_tick_as Send p k area m
sent_row m k p r s d next row delays ends counts v n area b requests stores copies = rw (requests, stores, copies, counts, ends, delays, row)

-- ---- by the direction

module _ (t : List ℕ) (k : ℕ) (area m : List ℕ) (p : Ipdu) (same : p ≡ ipdu t k) where
  row_as : (d : Direction) → p.direction ≡ d → row_tick_as d p k area m ≡ row_tick t k area m
  unfolding row_tick
  row_as d e = ap (λ (d : Direction). row_tick_as d p k area m) (sym e) ∙ ap (λ (q : Ipdu). row_tick_as q.direction q k area m) same

  pub row_sends : (x : Outcome) → p.direction ≡ Send → x ≡ row_tick_as Send p k area m → x ≡ row_tick t k area m
  row_sends x sends does = does ∙ row_as Send sends

  pub row_receives : (n : List ℕ) → p.direction ≡ Receive → n ≡ (row_tick_as Receive p k [] m).memory → outcome (done_with 0) n area ≡ row_tick t k area m
  row_receives n receives does = ap (λ (n : List ℕ). outcome (done_with 0) n area) does ∙ row_as Receive receives

  pub due_sends : (x : ℕ) → p.direction ≡ Send → x ≡ due_bit_as Send k m → x ≡ due_bit t k m
  unfolding due_bit
  due_sends x sends does = rw (← same, sends) does

  pub due_receives : (x : ℕ) → p.direction ≡ Receive → x ≡ due_bit_as Receive k m → x ≡ due_bit t k m
  unfolding due_bit
  due_receives x receives does = rw (← same, receives) does

pub few_bytes : (t : List ℕ) (k : ℕ) (p : Ipdu) → p ≡ ipdu t k → (ipdu t k).length.0 ≤ 8 → p.length.0 ≤ 8
few_bytes t k p same few = rw same few
