-- Parts of the ranges, as the tests hand them on to each other. Nothing of it is in what a range means. Assumes nothing.
use Rattle.std.specs.Prelude.{Bool, ◌&&◌, ℕ, ◌-◌, max, leb, eqb}
use Rattle.filter.specs.Filters.{greatest_count}
use Rattle.table.specs.declared.ObjectRecord.{ObjectRecord}
use Rattle.table.specs.Rules.{record_filter}
use Rattle.config.specs.declared.Ipdu.{Ipdu}
use Rattle.state.specs.declared.IpduState.{IpduState}
use Rattle.state.specs.declared.ObjectState.{ObjectState}

-- of a send I-PDU
abbrev pub request_in_range : Ipdu → IpduState → Bool
request_in_range p s =
    leb s.requested 1 && leb s.wanted 1 && leb s.delay p.minimum_delay && leb s.deadline p.deadline && eqb s.timer 0

abbrev pub period_in_range : Ipdu → IpduState → Bool
period_in_range p s =
    leb s.running 1 && leb s.running (max p.period p.offset) && leb s.countdown (max p.period p.offset)

-- of a receive I-PDU
abbrev pub nothing_sent : IpduState → Bool
nothing_sent s =
    eqb s.requested 0 && eqb s.wanted 0 && eqb s.running 0 && eqb s.delay 0 && eqb s.deadline 0 && eqb s.countdown 0

abbrev pub timer_in_range : Ipdu → IpduState → Bool
timer_in_range p s = leb s.timer (max p.first_deadline p.deadline)

-- one place of the queues in the word of bytes 8 to 15 of a row, whose upper two bytes say where a queue begins
abbrev pub queue_unit : ℕ
queue_unit = 281474976710656

-- of an object: what its depth and its filter decide
abbrev pub used_in_range : ObjectRecord → ObjectState → Bool
used_in_range r s = leb s.count r.depth && leb s.head (r.depth - 1) && leb s.occurrence (greatest_count (record_filter r))
