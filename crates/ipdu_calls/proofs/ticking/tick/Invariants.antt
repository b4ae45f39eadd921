-- `ipdu_calls::ticking::tick`: the invariant is what the I-PDUs passed gave with nothing marked; marks last come to the definition.
-- Assumes nothing.
use Rattle.std.proofs.Common.{◌≡◌, ◌^◌, ◌<◌, length}
use Rattle.calls.specs.Tick.{tick_result}
use Rattle.ipdu_calls.specs.RowTicks.{row_ticks, due_word}
use Rattle.ipdu_calls.proofs.ticking.tick.Given as goal

abbrev pub invariant-loop-k : goal.invariant-loop-k
invariant-loop-k l =
    (tick_result l.word l.m l.area ≡ row_ticks l.t l.k l.initial.area l.initial.m)
    × (l.due ≡ due_word l.t l.k l.initial.area l.initial.m)
    × (l.word < 2 ^ l.k)
    × (l.due < 2 ^ l.k)
    × (length l.m ≡ length l.initial.m)
    × (length l.area ≡ length l.initial.area)
