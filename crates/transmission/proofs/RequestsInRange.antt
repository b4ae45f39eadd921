-- What is done to an I-PDU's stored numbers keeps them in their ranges.
-- Assumes nothing.
use Rattle.std.proofs.Common.{Bool, true, false, ◌&&◌, List, ◌≡◌, sym, ap, ◌∙◌, ℕ, ◌^◌, ◌≤◌, ◌<◌, max, arith, leb-true, le-leb, eqb-true, leb, eqb}
use Rattle.memory.specs.Bytes.{Bytes}
use Rattle.memory.specs.Search.{pick}
use Rattle.memory.proofs.Parts.{number_lt}
use Rattle.memory.proofs.Tests.{and_split}
use Rattle.table.specs.declared.Counts.{Counts}
use Rattle.config.specs.declared.Direction.TheVariants.{Send, Receive}
use Rattle.config.specs.declared.Ipdu.{Ipdu}
use Rattle.table.specs.Records.{ipdu_record}
use Rattle.config.specs.Decode.{ipdu_of}
use Rattle.state.specs.declared.IpduState.{IpduState}
use Rattle.state.specs.Layout.{ipdu_state, with_ipdu_state}
use Rattle.state.specs.Updates.{with_wanted}
use Rattle.state.specs.Ranges.{in_range_as, ipdu_in_range, Ready}
use Rattle.state.proofs.RowLaws.{IpduFits}
use Rattle.state.proofs.Ready.{ready_ipdu}
use Rattle.transmission.specs.Requests.{ipdu, is_due, request_made, after_request, request_closed, confirmed, timer_set}

-- ---- times of a table fit two bytes

pub record Times (p : Ipdu) : Type 0 where
  pub period : p.period < 2 ^ 16
  pub offset : p.offset < 2 ^ 16
  pub delay : p.minimum_delay < 2 ^ 16
  pub deadline : p.deadline < 2 ^ 16
  pub first : p.first_deadline < 2 ^ 16

pub times : (t : List ℕ) (k : ℕ) → Bytes t → Times (ipdu t k)
unfolding ipdu_of ipdu_record
times t k bs =
    record {
      period = number_lt 2 _ t bs;
      offset = number_lt 2 _ t bs;
      delay = number_lt 2 _ t bs;
      deadline = number_lt 2 _ t bs;
      first = number_lt 2 _ t bs;
    }

-- ---- a send I-PDU

pub record SendKept (p : Ipdu) (s : IpduState) : Type 0 where
  pub requested : s.requested ≤ 1
  pub wanted : s.wanted ≤ 1
  pub running : s.running ≤ 1
  pub periodic : s.running ≤ max p.period p.offset
  pub delay : s.delay ≤ p.minimum_delay
  pub deadline : s.deadline ≤ p.deadline
  pub countdown : s.countdown ≤ max p.period p.offset
  pub timer : s.timer ≡ 0

pub send_kept : (p : Ipdu) (s : IpduState) → p.direction ≡ Send → ipdu_in_range p s ≡ true → SendKept p s
unfolding ipdu_in_range
send_kept p s d e =
    let b1 : Bool = leb s.requested 1 in
    let b2 : Bool = leb s.wanted 1 in
    let b3 : Bool = leb s.running 1 in
    let b4 : Bool = leb s.running (max p.period p.offset) in
    let b5 : Bool = leb s.delay p.minimum_delay in
    let b6 : Bool = leb s.deadline p.deadline in
    let b7 : Bool = leb s.countdown (max p.period p.offset) in
    let f : in_range_as Send p s ≡ true = sym (ap (λ (x : Rattle.config.specs.declared.Direction.Direction). in_range_as x p s) d) ∙ e in
    let a7 = and_split (b1 && b2 && b3 && b4 && b5 && b6 && b7) (eqb s.timer 0) f in
    let a6 = and_split (b1 && b2 && b3 && b4 && b5 && b6) b7 a7.0 in
    let a5 = and_split (b1 && b2 && b3 && b4 && b5) b6 a6.0 in
    let a4 = and_split (b1 && b2 && b3 && b4) b5 a5.0 in
    let a3 = and_split (b1 && b2 && b3) b4 a4.0 in
    let a2 = and_split (b1 && b2) b3 a3.0 in
    let a1 = and_split b1 b2 a2.0 in
    record {
      requested = leb-true _ _ a1.0;
      wanted = leb-true _ _ a1.1;
      running = leb-true _ _ a2.1;
      periodic = leb-true _ _ a3.1;
      delay = leb-true _ _ a4.1;
      deadline = leb-true _ _ a5.1;
      countdown = leb-true _ _ a6.1;
      timer = eqb-true _ _ a7.1;
    }

pub kept_send : (p : Ipdu) (s : IpduState) → p.direction ≡ Send → SendKept p s → ipdu_in_range p s ≡ true
unfolding ipdu_in_range
kept_send p s d k =
    rw (
      d,
      le-leb s.requested 1 k.requested,
      le-leb s.wanted 1 k.wanted,
      le-leb s.running 1 k.running,
      le-leb s.running (max p.period p.offset) k.periodic,
      le-leb s.delay p.minimum_delay k.delay,
      le-leb s.deadline p.deadline k.deadline,
      le-leb s.countdown (max p.period p.offset) k.countdown,
      k.timer,
    )

send_fits : (p : Ipdu) (s : IpduState) → Times p → SendKept p s → IpduFits s
send_fits p s f k =
    record {
      requested = omega (arith, k.requested);
      wanted = omega (arith, k.wanted);
      running = omega (arith, k.running);
      delay = omega (arith, k.delay, f.delay);
      deadline = omega (arith, k.deadline, f.deadline);
      countdown = omega (arith, k.countdown, f.period, f.offset);
      timer = omega (arith, k.timer);
    }

-- ---- updates of a send I-PDU

pub kept_wanted : (p : Ipdu) (s : IpduState) → SendKept p s → SendKept p (with_wanted 1 s)
kept_wanted p s k =
    record {
      requested = k.requested;
      wanted = omega arith;
      running = k.running;
      periodic = k.periodic;
      delay = k.delay;
      deadline = k.deadline;
      countdown = k.countdown;
      timer = k.timer;
    }

kept_made : (p : Ipdu) (s : IpduState) → SendKept p s → SendKept p (request_made p s)
unfolding request_made
kept_made p s k =
    record {
      requested = omega arith;
      wanted = omega arith;
      running = k.running;
      periodic = k.periodic;
      delay = k.delay;
      deadline = either (eqb s.requested 0);
      countdown = k.countdown;
      timer = k.timer;
    }
  where
    either : (b : Bool) → pick b p.deadline s.deadline ≤ p.deadline
    either true = omega arith
    either false = k.deadline

pub kept_offered : (p : Ipdu) (s : IpduState) → SendKept p s → SendKept p (after_request p s)
unfolding after_request
kept_offered p s k = either (is_due p s)
  where
    either : (b : Bool) → SendKept p (pick b (request_made p s) s)
    either true = kept_made p s k
    either false = k

-- a request closed
pub kept_closed : (d : ℕ) (p : Ipdu) (s : IpduState) → d ≤ p.minimum_delay → SendKept p s → SendKept p (request_closed d s)
kept_closed d p s h k =
    record {
      requested = omega arith;
      wanted = k.wanted;
      running = k.running;
      periodic = k.periodic;
      delay = h;
      deadline = omega arith;
      countdown = k.countdown;
      timer = k.timer;
    }

pub kept_confirmed : (good : Bool) (p : Ipdu) (s : IpduState) → SendKept p s → SendKept p (confirmed good p s)
unfolding confirmed
kept_confirmed true p s k = kept_closed p.minimum_delay p s (omega arith) k
kept_confirmed false p s k = kept_closed 0 p s (omega arith) k

-- a row of a send I-PDU set to numbers in range
pub ready_send_row : (t : List ℕ) (c : Counts) (m : List ℕ) → Ready t c m → (k : ℕ) → k < c.ipdus → (ipdu t k).direction ≡ Send → (s : IpduState)
    → SendKept (ipdu t k) s → Ready t c (with_ipdu_state m k s)
ready_send_row t c m ready k h d s kept =
    ready_ipdu t c m ready k h s (send_fits (ipdu t k) s (times t k ready.tables) kept) (kept_send (ipdu t k) s d kept)

pub ready_send_kept : (t : List ℕ) (c : Counts) (m : List ℕ) → Ready t c m → (k : ℕ) → k < c.ipdus → (ipdu t k).direction ≡ Send
    → SendKept (ipdu t k) (ipdu_state m k)
ready_send_kept t c m ready k h d = send_kept (ipdu t k) (ipdu_state m k) d (ready.ipdus k h)

-- ---- a receive I-PDU: its timer alone

pub record ReceiveKept (p : Ipdu) (s : IpduState) : Type 0 where
  pub requested : s.requested ≡ 0
  pub wanted : s.wanted ≡ 0
  pub running : s.running ≡ 0
  pub delay : s.delay ≡ 0
  pub deadline : s.deadline ≡ 0
  pub countdown : s.countdown ≡ 0
  pub timer : s.timer ≤ max p.first_deadline p.deadline

receive_kept : (p : Ipdu) (s : IpduState) → p.direction ≡ Receive → ipdu_in_range p s ≡ true → ReceiveKept p s
unfolding ipdu_in_range
receive_kept p s d e =
    let b1 : Bool = eqb s.requested 0 in
    let b2 : Bool = eqb s.wanted 0 in
    let b3 : Bool = eqb s.running 0 in
    let b4 : Bool = eqb s.delay 0 in
    let b5 : Bool = eqb s.deadline 0 in
    let b6 : Bool = eqb s.countdown 0 in
    let f : in_range_as Receive p s ≡ true = sym (ap (λ (x : Rattle.config.specs.declared.Direction.Direction). in_range_as x p s) d) ∙ e in
    let a6 = and_split (b1 && b2 && b3 && b4 && b5 && b6) (leb s.timer (max p.first_deadline p.deadline)) f in
    let a5 = and_split (b1 && b2 && b3 && b4 && b5) b6 a6.0 in
    let a4 = and_split (b1 && b2 && b3 && b4) b5 a5.0 in
    let a3 = and_split (b1 && b2 && b3) b4 a4.0 in
    let a2 = and_split (b1 && b2) b3 a3.0 in
    let a1 = and_split b1 b2 a2.0 in
    record {
      requested = eqb-true _ _ a1.0;
      wanted = eqb-true _ _ a1.1;
      running = eqb-true _ _ a2.1;
      delay = eqb-true _ _ a3.1;
      deadline = eqb-true _ _ a4.1;
      countdown = eqb-true _ _ a5.1;
      timer = leb-true _ _ a6.1;
    }

pub kept_receive : (p : Ipdu) (s : IpduState) → p.direction ≡ Receive → ReceiveKept p s → ipdu_in_range p s ≡ true
unfolding ipdu_in_range
kept_receive p s d k =
    rw (d, k.requested, k.wanted, k.running, k.delay, k.deadline, k.countdown)
    (le-leb s.timer (max p.first_deadline p.deadline) k.timer)

-- a row of a receive I-PDU set to numbers in range
pub ready_receive_row : (t : List ℕ) (c : Counts) (m : List ℕ) → Ready t c m → (k : ℕ) → k < c.ipdus → (ipdu t k).direction ≡ Receive
    → (s : IpduState) → ReceiveKept (ipdu t k) s → Ready t c (with_ipdu_state m k s)
ready_receive_row t c m ready k h d s kept =
    let f = times t k ready.tables in
    ready_ipdu t c m ready k h s
    (record {
      requested = omega (arith, kept.requested);
      wanted = omega (arith, kept.wanted);
      running = omega (arith, kept.running);
      delay = omega (arith, kept.delay);
      deadline = omega (arith, kept.deadline);
      countdown = omega (arith, kept.countdown);
      timer = omega (arith, kept.timer, f.first, f.deadline);
    })
    (kept_receive (ipdu t k) s d kept)

pub ready_receive_kept : (t : List ℕ) (c : Counts) (m : List ℕ) → Ready t c m → (k : ℕ) → k < c.ipdus → (ipdu t k).direction ≡ Receive
    → ReceiveKept (ipdu t k) (ipdu_state m k)
ready_receive_kept t c m ready k h d = receive_kept (ipdu t k) (ipdu_state m k) d (ready.ipdus k h)

pub ready_timer : (t : List ℕ) (c : Counts) (m : List ℕ) → Ready t c m → (k : ℕ) → k < c.ipdus → (ipdu t k).direction ≡ Receive
    → Ready t c (with_ipdu_state m k (timer_set (ipdu t k) (ipdu_state m k)))
unfolding timer_set
ready_timer t c m ready k h d =
    let kept = ready_receive_kept t c m ready k h d in
    ready_receive_row t c m ready k h d _
    (record {
      requested = kept.requested;
      wanted = kept.wanted;
      running = kept.running;
      delay = kept.delay;
      deadline = kept.deadline;
      countdown = kept.countdown;
      timer = omega arith;
    })
