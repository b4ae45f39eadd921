-- `driver::lines::scan`: each byte before the line's end changes the reader alone (`scan_more`).
-- Assumes nothing.
use Rattle.std.proofs.Common.{rules}
use Rattle.driver.proofs.PartLaws.{scan_none, scan_more}
use Rattle.driver.proofs.lines.scan.Goals as goal

pub loop-at-init : goal.loop-at-init
loop-at-init c = let a = c.args in λ t b going same. scan_none a.part.now a.from a.reader t b same

pub loop-at-preserved : goal.loop-at-preserved
loop-at-preserved c =
    let a = c.args in
    let at_loop = c.loop-at in
    let end = c.line_end-end.ensures in
    let more =
    scan_more a.part.now a.from at_loop.at at_loop.auto.at (search rules) a.reader at_loop.line at_loop.invariant (end.none _ at_loop.auto.at c.loop-at-test.true) in
    λ t b going same. rw c.feed-line.ensures (more t b going same)

pub returns : goal.returns
returns c =
    let end = c.line_end-end.ensures in
    record { low = end.low; high = end.high; runs = search rules; stops = end.stops }
