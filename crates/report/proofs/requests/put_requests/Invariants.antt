-- `report::requests::put_requests`: the requests of the I-PDUs passed are put, and `rest` is what is left of the word (`turn_more`).
-- Assumes nothing.
use Rattle.std.proofs.Common.{◌≡◌, ◌/◌, ◌-◌, ◌^◌, ◌≤◌, length}
use Rattle.memory.specs.Texts.{Put}
use Rattle.report.specs.Printing.{request_texts}
use Rattle.report.proofs.requests.put_requests.Given as goal

abbrev pub invariant-loop-k : goal.invariant-loop-k
invariant-loop-k l = (l.k ≤ l.n) × (l.rest ≡ l.word / 2 ^ l.k) × Put l.at (request_texts l.t l.k l.word l.area) l.initial.out l.out l.end × (length l.out ≡ length l.initial.out)

abbrev pub decreases-loop-k : goal.decreases-loop-k
decreases-loop-k l = l.n - l.k
