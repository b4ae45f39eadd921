-- `report::requests::put_hex`: the bytes passed are put, two digits each (`hex_more`).
-- Assumes nothing.
use Rattle.std.proofs.Common.{◌≡◌, ◌+◌, ◌*◌, length}
use Rattle.memory.specs.Bytes.{part}
use Rattle.memory.specs.Texts.{Put}
use Rattle.script.specs.Text.{hex}
use Rattle.report.proofs.requests.put_hex.Given as goal

abbrev pub invariant-loop-i : goal.invariant-loop-i
invariant-loop-i l = Put l.at (hex (part l.from l.i l.bytes)) l.initial.out l.out (l.at + 2 * l.i) × (length l.out ≡ length l.initial.out)
