-- Document 01, "Calls", start and stop periodic: the period of the modes 1 and 2.
-- Assumes nothing.
use Rattle.std.specs.Prelude.{Bool, true, false, List, ℕ}
use Rattle.memory.specs.Search.{pick, fold}
use Rattle.table.specs.declared.Counts.{Counts}
use Rattle.config.specs.declared.Ipdu.{Ipdu}
use Rattle.config.specs.declared.Mode.{Mode}
use Rattle.config.specs.declared.Mode.TheVariants.{Direct, Periodic, Mixed}
use Rattle.state.specs.declared.IpduState.{IpduState}
use Rattle.state.specs.Layout.{ipdu_state, with_ipdu_state}
use Rattle.state.specs.Updates.{with_period}
use Rattle.transmission.specs.Requests.{ipdu}

abbrev pub has_period : Mode → Bool
has_period Direct = false
has_period Periodic = true
has_period Mixed = true

-- start periodic sets the countdown to the offset, running or not; stop periodic halts it
unfoldable pub period_set : Bool → Ipdu → IpduState → IpduState
period_set on p s = pick on (with_period 1 p.offset s) (with_period 0 s.countdown s)

abbrev pub period_turn : Bool → List ℕ → ℕ → List ℕ → List ℕ
period_turn on t k m = pick (has_period (ipdu t k).mode) (with_ipdu_state m k (period_set on (ipdu t k) (ipdu_state m k))) m

unfoldable pub set_periods : Bool → List ℕ → Counts → List ℕ → List ℕ
set_periods on t c m = fold c.ipdus (period_turn on t) m
