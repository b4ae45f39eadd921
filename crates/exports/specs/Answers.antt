-- Answers at the C boundary: document 01's number, and what is returned with it.
-- Assumes nothing.
use Rattle.exports.specs.declared.Answer.{Answer}
use Rattle.std.specs.Prelude.{Result}
use Rattle.table.specs.declared.WrongRecord.{WrongRecord}
use Rattle.table.specs.Check.{number_of, place_of}
use Rattle.table.specs.declared.Counts.{Counts}

abbrev pub answer_of : Result Counts WrongRecord → Answer
answer_of v = record { number = number_of v; value = place_of v }
