-- Document 01, "Calls", tick: what it does to each I-PDU, by rising number, over an accepted table and a working memory in range.
-- Assumes nothing.
use Rattle.std.specs.Prelude.{List, ℕ, ◌+◌}
use Rattle.memory.specs.Search.{pick, fold}
use Rattle.table.specs.declared.Counts.{Counts}
use Rattle.config.specs.declared.Direction.{Direction}
use Rattle.config.specs.declared.Direction.TheVariants.{Send, Receive}
use Rattle.state.specs.declared.IpduState.{IpduState}
use Rattle.state.specs.Layout.{ipdu_state, with_ipdu_state}
use Rattle.message.specs.Objects.{mark_receive_error, mark_send_error}
use Rattle.delivery.specs.Delivery.{mark_objects}
use Rattle.transmission.specs.Requests.{ipdu}
use Rattle.timing.specs.Ticks.{tick_delay, deadline_expires, tick_deadline, tick_period, timer_expires, tick_timer}
use Rattle.calls.specs.Answers.{done_with}
use Rattle.calls.specs.Answers.{Outcome, outcome, value_of}
use Rattle.calls.specs.Calls.{try_request}

-- a send I-PDU: the delay, then the deadline, with send error on its objects where that runs out, then the period, then the request
abbrev pub send_tick : List ℕ → Counts → ℕ → IpduState → List ℕ → List ℕ → Outcome
send_tick t c k s area m =
    try_request (ipdu t k) k (tick_period (ipdu t k) (tick_deadline s)) area (pick (deadline_expires s) (mark_objects t c k mark_send_error m) m)

-- a receive I-PDU: the timer, with receive error on its objects where that runs out
abbrev pub receive_tick : List ℕ → Counts → ℕ → IpduState → List ℕ → List ℕ → Outcome
receive_tick t c k s area m =
    outcome (done_with 0) (with_ipdu_state (pick (timer_expires s) (mark_objects t c k mark_receive_error m) m) k (tick_timer (ipdu t k) s)) area

abbrev pub tick_as : Direction → List ℕ → Counts → ℕ → List ℕ → List ℕ → Outcome
tick_as Send t c k area m = send_tick t c k (tick_delay (ipdu_state m k)) area m
tick_as Receive t c k area m = receive_tick t c k (ipdu_state m k) area m

unfoldable pub tick_ipdu : List ℕ → Counts → ℕ → List ℕ → List ℕ → Outcome
tick_ipdu t c k area m = tick_as (ipdu t k).direction t c k area m

-- what the I-PDUs so far gave: the word of those requested, working memory and the request area
pub record TickResult : Type 0 where
  pub word : ℕ
  pub memory : List ℕ
  pub area : List ℕ

abbrev pub tick_result : ℕ → List ℕ → List ℕ → TickResult
tick_result word m area = record { word = word; memory = m; area = area }

abbrev pub joined : ℕ → Outcome → TickResult
joined word o = tick_result (word + value_of o.answer) o.memory o.area

abbrev pub tick_turn : List ℕ → Counts → ℕ → TickResult → TickResult
tick_turn t c k a = joined a.word (tick_ipdu t c k a.area a.memory)

abbrev pub ticks : List ℕ → Counts → ℕ → List ℕ → List ℕ → TickResult
ticks t c n area m = fold n (tick_turn t c) (tick_result 0 m area)

unfoldable pub tick_in : List ℕ → Counts → List ℕ → List ℕ → Outcome
tick_in t c area m =
    outcome (done_with (ticks t c c.ipdus area m).word) (ticks t c c.ipdus area m).memory (ticks t c c.ipdus area m).area
