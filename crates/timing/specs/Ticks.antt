-- Document 01, "Calls", tick: the times of one I-PDU, in its order. The request (4) is in Requests.
-- Assumes nothing.
use Rattle.std.specs.Prelude.{Bool, ◌&&◌, ◌-◌, eqb}
use Rattle.memory.specs.Search.{pick}
use Rattle.config.specs.declared.Ipdu.{Ipdu}
use Rattle.state.specs.declared.IpduState.{IpduState}
use Rattle.state.specs.Updates.{with_request, with_wanted, with_delay, with_period, with_timer}
use Rattle.transmission.specs.Requests.{request_closed}

-- (1) the delay loses one tick
unfoldable pub tick_delay : IpduState → IpduState
tick_delay s = with_delay (s.delay - 1) s

-- (2) the deadline of an open request loses one tick; when it reaches 0 the request closes, with no delay
unfoldable pub deadline_expires : IpduState → Bool
deadline_expires s = eqb s.requested 1 && eqb (s.deadline - 1) 0

unfoldable pub tick_deadline : IpduState → IpduState
tick_deadline s = pick (deadline_expires s) (request_closed 0 s) (pick (eqb s.requested 1) (with_request s.requested (s.deadline - 1) s) s)

-- (3) a countdown that runs loses one tick; when it reaches 0 it begins again at P, and a request is wanted
unfoldable pub period_elapses : IpduState → Bool
period_elapses s = eqb s.running 1 && eqb (s.countdown - 1) 0

unfoldable pub tick_period : Ipdu → IpduState → IpduState
tick_period p s =
    pick (period_elapses s) (with_wanted 1 (with_period s.running p.period s)) (pick (eqb s.running 1) (with_period s.running (s.countdown - 1) s) s)

-- a receive timer that runs loses one tick; when it reaches 0 it begins again at R
unfoldable pub timer_expires : IpduState → Bool
timer_expires s = eqb s.timer 1

unfoldable pub tick_timer : Ipdu → IpduState → IpduState
tick_timer p s = with_timer (pick (timer_expires s) p.deadline (s.timer - 1)) s
