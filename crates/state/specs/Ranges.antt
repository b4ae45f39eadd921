-- The ranges of the stored numbers, as docs/MEMORY.md lists them: refusal 6 for a range is given exactly by these.
-- Numbers that are not named here (values, old values) may be anything that their bytes hold. Assumes nothing.
use Rattle.std.specs.Prelude.{Bool, true, not, ◌&&◌, List, ◌≡◌, ℕ, ◌-◌, ◌<◌, max, length, leb, eqb}
use Rattle.memory.specs.Bytes.{Bytes}
use Rattle.memory.specs.Search.{any_below}
use Rattle.filter.specs.Filters.{greatest_count}
use Rattle.table.specs.declared.Counts.{Counts}
use Rattle.table.specs.declared.ObjectRecord.{ObjectRecord}
use Rattle.config.specs.declared.Direction.{Direction}
use Rattle.config.specs.declared.Direction.TheVariants.{Send, Receive}
use Rattle.config.specs.declared.Ipdu.{Ipdu}
use Rattle.table.specs.Records.{ipdu_record, object_record}
use Rattle.table.specs.Rules.{record_filter}
use Rattle.table.specs.Check.{depths, Right}
use Rattle.config.specs.Decode.{ipdu_of}
use Rattle.state.specs.declared.IpduState.{IpduState}
use Rattle.state.specs.declared.ObjectState.{ObjectState}
use Rattle.state.specs.Layout.{memory_size, running_at, ipdu_state, object_state}

-- flags are 0 or 1, and the period runs only where there is one; delay at most M, deadline at most D, countdown at most the larger of period and offset; a receive
-- I-PDU has a timer alone, at most the larger of F and R
abbrev pub in_range_as : Direction → Ipdu → IpduState → Bool
in_range_as Send p s =
    leb s.requested 1
    && leb s.wanted 1
    && leb s.running 1
    && leb s.running (max p.period p.offset)
    && leb s.delay p.minimum_delay
    && leb s.deadline p.deadline
    && leb s.countdown (max p.period p.offset)
    && eqb s.timer 0
in_range_as Receive p s =
    eqb s.requested 0
    && eqb s.wanted 0
    && eqb s.running 0
    && eqb s.delay 0
    && eqb s.deadline 0
    && eqb s.countdown 0
    && leb s.timer (max p.first_deadline p.deadline)

unfoldable pub ipdu_in_range : Ipdu → IpduState → Bool
ipdu_in_range p s = in_range_as p.direction p s

-- the four marks, the overflow flag, a count of at most the depth, the place of the oldest value below it; the queue begins where those of
-- all lower objects end; the occurrence is at most the filter's greatest count
unfoldable pub object_in_range : ObjectRecord → ℕ → ObjectState → Bool
object_in_range r first s =
    leb s.marks 15
    && leb s.overflow 1
    && leb s.count r.depth
    && leb s.head (r.depth - 1)
    && eqb s.queue first
    && leb s.occurrence (greatest_count (record_filter r))

abbrev pub ipdu_out : List ℕ → List ℕ → ℕ → Bool
ipdu_out t m k = not (ipdu_in_range (ipdu_of (ipdu_record t k)) (ipdu_state m k))

abbrev pub object_out : List ℕ → Counts → List ℕ → ℕ → Bool
object_out t c m i = not (object_in_range (object_record t c.ipdus i) (depths t c i) (object_state m i))

-- every stored number is in its range
unfoldable pub in_range : List ℕ → Counts → List ℕ → Bool
in_range t c m = leb (running_at m) 1 && not (any_below c.ipdus (ipdu_out t m)) && not (any_below c.objects (object_out t c m))

-- what a call works on: a table that was accepted, and 8,192 bytes of working memory that were found in range
pub record Ready (t : List ℕ) (c : Counts) (m : List ℕ) : Type 0 where
  pub right : Right t c
  pub tables : Bytes t
  pub long : length m ≡ memory_size
  pub bytes : Bytes m
  pub running : leb (running_at m) 1 ≡ true
  pub ipdus : (k : ℕ) → k < c.ipdus → ipdu_in_range (ipdu_of (ipdu_record t k)) (ipdu_state m k) ≡ true
  pub objects : (i : ℕ) → i < c.objects
      → object_in_range (object_record t c.ipdus i) (depths t c i) (object_state m i) ≡ true
