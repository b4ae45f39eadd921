-- `report::requests::put_hex`: the bytes passed are put, two digits each (`hex_more`).
-- Assumes nothing.
use Rattle.std.proofs.Common.{rules, length-set}
use Rattle.report.proofs.HexTexts.{hex_none, hex_more}
use Rattle.report.proofs.requests.put_hex.Goals as goal

pub loop-i-init : goal.loop-i-init
loop-i-init c = (search (rules, hex_none), search rules)

pub loop-i-preserved : goal.loop-i-preserved
loop-i-preserved c = (search (rules, hex_more), simp length-set (search rules))
