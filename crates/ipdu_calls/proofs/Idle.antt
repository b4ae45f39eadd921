-- An I-PDU with nothing to do in a tick: its row stays as it is, it is not requested, and no time of it runs out.
-- Assumes nothing.
use Rattle.std.proofs.Common.{true, false, ◌&&◌, List, [], ◌∷◌, ◌≡◌, sym, ap, ℕ, ◌-◌, ◌≤◌, ◌<◌, arith, eqb-true, eqb, length}
use Rattle.memory.specs.Bytes.{Bytes}
use Rattle.memory.specs.Search.{pick}
use Rattle.memory.proofs.Tests.{each_true}
use Rattle.config.specs.declared.Direction.TheVariants.{Send, Receive}
use Rattle.config.specs.declared.Ipdu.{Ipdu}
use Rattle.table.specs.Records.{most_ipdus}
use Rattle.state.specs.declared.IpduState.{IpduState}
use Rattle.state.specs.Layout.{memory_size, ipdu_state, with_ipdu_state}
use Rattle.state.specs.Updates.{with_delay, with_timer}
use Rattle.state.proofs.RowLaws.{ipdu_same}
use Rattle.transmission.specs.Requests.{is_due, after_request}
use Rattle.timing.specs.Ticks.{tick_delay, deadline_expires, tick_deadline, period_elapses, tick_period, timer_expires, tick_timer}
use Rattle.calls.specs.Answers.{done_with}
use Rattle.calls.specs.Answers.{outcome}
use Rattle.ipdu_calls.specs.RowTicks.{row_tick_as, due_bit_as}

-- ---- the numbers of the row

module _ (p : Ipdu) (s : IpduState) where
  timer_still : s.timer ≡ 0 → tick_timer p s ≡ s
  unfolding tick_timer timer_expires
  timer_still e =
      let same : pick (eqb s.timer 1) p.deadline (s.timer - 1) ≡ s.timer = rw e in
      ap (λ (n : ℕ). with_timer n s) same

  delay_still : s.delay ≡ 0 → tick_delay s ≡ s
  unfolding tick_delay
  delay_still e =
      let same : s.delay - 1 ≡ s.delay = omega arith in
      ap (λ (n : ℕ). with_delay n s) same

  deadline_still : s.requested ≡ 0 → tick_deadline s ≡ s
  unfolding tick_deadline deadline_expires
  deadline_still e = rw e

  period_still : s.running ≡ 0 → tick_period p s ≡ s
  unfolding tick_period period_elapses
  period_still e = rw e

  not_due : s.wanted ≡ 0 → is_due p s ≡ false
  unfolding is_due
  not_due e = rw e

-- ---- the memory

module _ (m : List ℕ) (k : ℕ) (p : Ipdu) (s : IpduState) (row : s ≡ ipdu_state m k) (low : k < most_ipdus) (long : memory_size ≤ length m) where
  -- a receive I-PDU whose timer does not run
  pub receive_idle : Bytes m → s.timer ≡ 0 → m ≡ (row_tick_as Receive p k [] m).memory
  receive_idle bytes e = sym (rw (← row, timer_still p s e, row) (ipdu_same m k bytes (omega arith)))

  pub receive_none_due : s.timer ≡ 0 → 0 ≡ due_bit_as Receive k m
  unfolding timer_expires
  receive_none_due e = rw (← row, e)

  -- a send I-PDU with no request open or wanted, no period and no delay
  module _ (idle : (eqb s.requested 0 && eqb s.wanted 0 && eqb s.running 0 && eqb s.delay 0) ≡ true) where
    zeros : (s.requested ≡ 0) × (s.wanted ≡ 0) × (s.running ≡ 0) × (s.delay ≡ 0)
    zeros =
        let all = each_true (eqb s.requested 0) (eqb s.wanted 0 ∷ eqb s.running 0 ∷ eqb s.delay 0 ∷ []) idle in
        search eqb-true

    pub send_idle : Bytes m → (area : List ℕ) → outcome (done_with 0) m area ≡ row_tick_as Send p k area m
    unfolding after_request
    send_idle bytes area =
        let still : tick_period p (tick_deadline (tick_delay s)) ≡ s =
        rw (delay_still p s zeros.3, deadline_still p s zeros.0) (period_still p s zeros.2) in
        let stored : with_ipdu_state m k s ≡ m = rw row (ipdu_same m k bytes (omega arith)) in
        rw (← row, still, not_due p s zeros.1, stored)

    pub send_none_due : 0 ≡ due_bit_as Send k m
    unfolding deadline_expires
    send_none_due = rw (← row, delay_still p s zeros.3, zeros.0)
