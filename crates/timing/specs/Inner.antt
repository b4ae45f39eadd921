-- What the search for an I-PDU with a period answers. Nothing of it is in what a call means. Assumes nothing.
use Rattle.std.specs.Prelude.{false, List, ◌≡◌, ℕ, ◌≤◌, ◌<◌}
use Rattle.transmission.specs.Requests.{ipdu}
use Rattle.timing.specs.Periods.{has_period}

-- the first from `from` on, or n
pub record NextPeriod (t : List ℕ) (from n r : ℕ) : Type 0 where
  pub low : from ≤ r
  pub high : r ≤ n
  pub none : (j : ℕ) → from ≤ j → j < r → has_period (ipdu t j).mode ≡ false
