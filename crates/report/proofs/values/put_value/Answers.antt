-- `report::values::put_value`: ` val`, then the integer that the value means, then the line feed.
-- Assumes nothing.
use Rattle.report.proofs.Puts.{value_fits, value_put, value_room}
use Rattle.report.proofs.values.put_value.Goals as goal

pub put_integer-end-requires : goal.put_integer-end-requires
put_integer-end-requires c = value_fits c.args.signed c.args.v c.args.at c.put_text-behind.ensures c.ranges.v.fits c.requires

pub put_line_feed-requires : goal.put_line_feed-requires
put_line_feed-requires c =
    value_room c.args.signed c.args.v c.args.at c.put_text-behind.ensures c.put_integer-end.ensures c.ranges.v.fits c.requires

pub returns : goal.returns
returns c = value_put c.args.signed c.args.v c.args.at c.put_text-behind.ensures c.put_integer-end.ensures c.put_line_feed.ensures
