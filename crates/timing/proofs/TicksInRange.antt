-- What a tick does to an I-PDU's stored numbers keeps them in their ranges.
-- Assumes nothing.
use Rattle.std.proofs.Common.{Bool, true, false, ℕ, ◌-◌, ◌≤◌, max, arith, eqb}
use Rattle.memory.specs.Search.{pick}
use Rattle.config.specs.declared.Ipdu.{Ipdu}
use Rattle.state.specs.declared.IpduState.{IpduState}
use Rattle.state.specs.Updates.{with_request, with_wanted, with_period}
use Rattle.transmission.specs.Requests.{request_closed}
use Rattle.timing.specs.Ticks.{tick_delay, deadline_expires, tick_deadline, period_elapses, tick_period, timer_expires, tick_timer}
use Rattle.transmission.proofs.RequestsInRange.{SendKept, kept_closed, ReceiveKept}

-- ---- a send I-PDU

module _ (p : Ipdu) (s : IpduState) (k : SendKept p s) where
  pub kept_tick_delay : SendKept p (tick_delay s)
  unfolding tick_delay
  kept_tick_delay =
      record {
        requested = k.requested;
        wanted = k.wanted;
        running = k.running;
        periodic = k.periodic;
        delay = omega (arith, k.delay);
        deadline = k.deadline;
        countdown = k.countdown;
        timer = k.timer;
      }

  pub kept_tick_deadline : SendKept p (tick_deadline s)
  unfolding tick_deadline
  kept_tick_deadline = cases (deadline_expires s) (eqb s.requested 1)
    where
      older : SendKept p (with_request s.requested (s.deadline - 1) s)
      older =
          record {
            requested = k.requested;
            wanted = k.wanted;
            running = k.running;
            periodic = k.periodic;
            delay = k.delay;
            deadline = omega (arith, k.deadline);
            countdown = k.countdown;
            timer = k.timer;
          }

      cases : (a b : Bool) → SendKept p (pick a (request_closed 0 s) (pick b (with_request s.requested (s.deadline - 1) s) s))
      cases true b = kept_closed 0 p s (omega arith) k
      cases false true = older
      cases false false = k

  pub kept_tick_period : SendKept p (tick_period p s)
  unfolding tick_period
  kept_tick_period = cases (period_elapses s) (eqb s.running 1)
    where
      -- another countdown, and wanted or not
      next : (w n : ℕ) → w ≤ 1 → n ≤ max p.period p.offset → SendKept p (with_wanted w (with_period s.running n s))
      next w n h b =
          record {
            requested = k.requested;
            wanted = h;
            running = k.running;
            periodic = k.periodic;
            delay = k.delay;
            deadline = k.deadline;
            countdown = b;
            timer = k.timer;
          }

      cases : (a b : Bool)
          → SendKept p (pick a (with_wanted 1 (with_period s.running p.period s)) (pick b (with_period s.running (s.countdown - 1) s) s))
      cases true b = next 1 p.period (omega arith) (omega arith)
      cases false true = next s.wanted (s.countdown - 1) k.wanted (omega (arith, k.countdown))
      cases false false = k

-- ---- a receive I-PDU

pub kept_tick_timer : (p : Ipdu) (s : IpduState) → ReceiveKept p s → ReceiveKept p (tick_timer p s)
unfolding tick_timer
kept_tick_timer p s k =
    record {
      requested = k.requested;
      wanted = k.wanted;
      running = k.running;
      delay = k.delay;
      deadline = k.deadline;
      countdown = k.countdown;
      timer = either (timer_expires s);
    }
  where
    either : (b : Bool) → pick b p.deadline (s.timer - 1) ≤ max p.first_deadline p.deadline
    either true = omega arith
    either false = omega (arith, k.timer)
