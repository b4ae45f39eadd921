-- Tick in the order of the code: the rows of all I-PDUs, then in one walk the marks of those whose time ran out. The definition of tick marks
-- I-PDU by I-PDU; proofs/MarkedOnce says that both come to the same. Assumes nothing.
use Rattle.std.specs.Prelude.{Bool, List, ℕ, ◌^◌}
use Rattle.memory.specs.Search.{pick, sum_below, fold}
use Rattle.config.specs.declared.Direction.{Direction}
use Rattle.config.specs.declared.Direction.TheVariants.{Send, Receive}
use Rattle.config.specs.declared.Ipdu.{Ipdu}
use Rattle.state.specs.declared.IpduState.{IpduState}
use Rattle.state.specs.Layout.{ipdu_state, with_ipdu_state}
use Rattle.transmission.specs.Requests.{ipdu}
use Rattle.timing.specs.Ticks.{tick_delay, deadline_expires, tick_deadline, tick_period, timer_expires, tick_timer}
use Rattle.calls.specs.Answers.{done_with}
use Rattle.calls.specs.Answers.{Outcome, outcome}
use Rattle.calls.specs.Calls.{try_request}
use Rattle.calls.specs.Tick.{TickResult, tick_result, joined}

-- a tick of I-PDU k that marks nothing
abbrev pub row_tick_as : Direction → Ipdu → ℕ → List ℕ → List ℕ → Outcome
row_tick_as Send p k area m = try_request p k (tick_period p (tick_deadline (tick_delay (ipdu_state m k)))) area m
row_tick_as Receive p k area m = outcome (done_with 0) (with_ipdu_state m k (tick_timer p (ipdu_state m k))) area

unfoldable pub row_tick : List ℕ → ℕ → List ℕ → List ℕ → Outcome
row_tick t k area m = row_tick_as (ipdu t k).direction (ipdu t k) k area m

-- the time of an I-PDU runs out: the deadline of a send I-PDU, the timer of a receive I-PDU
abbrev pub expires_as : Direction → IpduState → Bool
expires_as Send s = deadline_expires (tick_delay s)
expires_as Receive s = timer_expires s

-- the bit of I-PDU k, where its time runs out
abbrev pub due_bit_as : Direction → ℕ → List ℕ → ℕ
due_bit_as d k m = pick (expires_as d (ipdu_state m k)) (2 ^ k) 0

unfoldable pub due_bit : List ℕ → ℕ → List ℕ → ℕ
due_bit t k m = due_bit_as (ipdu t k).direction k m

-- the ticks of the I-PDUs below n, and the word of those whose time ran out in them
abbrev pub row_turn : List ℕ → ℕ → TickResult → TickResult
row_turn t k a = joined a.word (row_tick t k a.area a.memory)

abbrev pub row_ticks : List ℕ → ℕ → List ℕ → List ℕ → TickResult
row_ticks t n area m = fold n (row_turn t) (tick_result 0 m area)

abbrev pub due_word : List ℕ → ℕ → List ℕ → List ℕ → ℕ
due_word t n area m = sum_below n (λ k. due_bit t k (row_ticks t k area m).memory)
