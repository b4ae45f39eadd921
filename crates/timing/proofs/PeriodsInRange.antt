-- What starts and halts a period keeps every stored number in its range.
-- Assumes nothing.
use Rattle.std.proofs.Common.{Bool, true, false, not, ◌&&◌, ◌||◌, List, ⊎_elim, ◌≡◌, ℕ, ◌≤◌, ◌<◌, max, arith, leb-true, eqb-true, leb, eqb}
use Rattle.memory.specs.Search.{fold}
use Rattle.memory.proofs.Search.{fold_keeps}
use Rattle.memory.proofs.Tests.{and_split, or_cases, true_or_false, true_not_false}
use Rattle.table.specs.declared.Counts.{Counts}
use Rattle.config.specs.declared.Direction.TheVariants.{Send}
use Rattle.config.specs.declared.Ipdu.{Ipdu}
use Rattle.table.specs.declared.IpduRecord.{IpduRecord}
use Rattle.table.specs.Records.{receiving, sending, ipdu_record}
use Rattle.table.specs.Rules.{ipdu_right, send_ipdu, receive_ipdu}
use Rattle.config.specs.Decode.{mode_of, ipdu_of}
use Rattle.table.proofs.Facts.{ipdu_facts}
use Rattle.state.specs.declared.IpduState.{IpduState}
use Rattle.state.specs.Layout.{ipdu_state}
use Rattle.state.specs.Ranges.{Ready}
use Rattle.transmission.specs.Requests.{ipdu}
use Rattle.transmission.proofs.RequestsInRange.{SendKept, ready_send_row, ready_send_kept}
use Rattle.timing.specs.Periods.{has_period, period_set, period_turn}

pub kept_period : (on : Bool) (p : Ipdu) (s : IpduState) → 1 ≤ max p.period p.offset → SendKept p s → SendKept p (period_set on p s)
unfolding period_set
kept_period true p s some k =
    record {
      requested = k.requested;
      wanted = k.wanted;
      running = omega arith;
      periodic = some;
      delay = k.delay;
      deadline = k.deadline;
      countdown = omega arith;
      timer = k.timer;
    }
kept_period false p s some k =
    record {
      requested = k.requested;
      wanted = k.wanted;
      running = omega arith;
      periodic = omega arith;
      delay = k.delay;
      deadline = k.deadline;
      countdown = k.countdown;
      timer = k.timer;
    }

-- a mode with a period is 1 or 2
has_mode : (n : ℕ) → has_period (mode_of n) ≡ true → n ≡ 0 → ⊥
has_mode n e z = true_not_false {b = has_period (mode_of n)} e (rw z)

-- its I-PDU is sent, and its period is at least 1
pub record Periods (r : IpduRecord) : Type 0 where
  pub sent : r.direction ≡ sending
  pub some : 1 ≤ r.period

pub periods : (r : IpduRecord) → ipdu_right r ≡ true → has_period (mode_of r.mode) ≡ true → Periods r
periods r right has =
    ⊎_elim
    (λ (e : (eqb r.direction sending && send_ipdu r) ≡ true).
    let d = and_split (eqb r.direction sending) (send_ipdu r) e in
    let last = and_split (first && zero && (still || cyclic)) delays d.1 in
    let mid = and_split (first && zero) (still || cyclic) last.0 in
    ⊎_elim
    (λ (z : still ≡ true).
    absurd (has_mode r.mode has (eqb-true r.mode 0 (and_split (eqb r.mode 0) (eqb r.period 0) (and_split (eqb r.mode 0 && eqb r.period 0) (eqb r.offset 0) z).0).0)))
    (λ (y : cyclic ≡ true).
    record {
      sent = eqb-true r.direction sending d.0;
      some = leb-true 1 r.period (and_split (leb 1 r.mode) (leb 1 r.period) (and_split (leb 1 r.mode && leb 1 r.period) (leb 1 r.offset) y).0).1;
    })
    (or_cases still cyclic mid.1))
    (λ (e : (eqb r.direction receiving && receive_ipdu r) ≡ true).
    absurd (has_mode r.mode has (no_mode (and_split (eqb r.direction receiving) (receive_ipdu r) e).1)))
    (or_cases (eqb r.direction sending && send_ipdu r) (eqb r.direction receiving && receive_ipdu r) (ipdu_facts r right).directions)
  where
    first : Bool
    first = leb 1 r.deadline

    zero : Bool
    zero = eqb r.first_deadline 0

    still : Bool
    still = eqb r.mode 0 && eqb r.period 0 && eqb r.offset 0

    cyclic : Bool
    cyclic = leb 1 r.mode && leb 1 r.period && leb 1 r.offset

    delays : Bool
    delays = not (eqb r.mode 1) || eqb r.minimum_delay 0

    no_mode : receive_ipdu r ≡ true → r.mode ≡ 0
    no_mode e =
        let a4 = and_split (eqb r.mode 0 && eqb r.period 0 && eqb r.offset 0 && eqb r.minimum_delay 0) (eqb r.first_deadline 0 || leb 1 r.deadline) e in
        let a3 = and_split (eqb r.mode 0 && eqb r.period 0 && eqb r.offset 0) (eqb r.minimum_delay 0) a4.0 in
        let a2 = and_split (eqb r.mode 0 && eqb r.period 0) (eqb r.offset 0) a3.0 in
        eqb-true r.mode 0 (and_split (eqb r.mode 0) (eqb r.period 0) a2.0).0

pub ready_period_turn : (t : List ℕ) (c : Counts) (on : Bool) (k : ℕ) → k < c.ipdus → (m : List ℕ) → Ready t c m → Ready t c (period_turn on t k m)
unfolding ipdu_of
ready_period_turn t c on k below m ready =
    ⊎_elim
    (λ (e : has_period (ipdu t k).mode ≡ true).
    let facts = periods (ipdu_record t k) (ready.right.ipdus k below) e in
    let d : (ipdu t k).direction ≡ Send = rw facts.sent in
    rw e
    (ready_send_row t c m ready k below d (period_set on (ipdu t k) (ipdu_state m k))
    (kept_period on (ipdu t k) (ipdu_state m k) (omega (arith, facts.some)) (ready_send_kept t c m ready k below d))))
    (λ (e : has_period (ipdu t k).mode ≡ false). rw e ready)
    (true_or_false (has_period (ipdu t k).mode))

pub ready_periods : (t : List ℕ) (c : Counts) (on : Bool) (n : ℕ) → n ≤ c.ipdus → (m : List ℕ) → Ready t c m
    → Ready t c (fold n (period_turn on t) m)
ready_periods t c on n h = fold_keeps (Ready t c) n (period_turn on t) (λ k b. ready_period_turn t c on k (omega (arith, b, h)))
