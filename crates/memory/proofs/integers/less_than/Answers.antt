-- `memory::integers::less_than`: ranks stand in the order of the integers.
-- Assumes nothing.
use Rattle.memory.proofs.IntegerLaws.{rank_less}
use Rattle.memory.proofs.integers.less_than.Goals as goal

pub returns : goal.returns
returns c =
    rw (c.rank.ensures, c.rank-2.ensures)
    (rank_less c.args.signed c.args.a c.args.b c.ranges.a.fits c.ranges.b.fits)
