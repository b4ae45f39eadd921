-- `config::decode::ipdu_length`: no length where the check refuses or the number is past the last I-PDU, else the record's.
-- Assumes nothing.
use Rattle.std.proofs.Common.{rules}
use Rattle.config.proofs.Lengths.{no_length, table_shape, length_past, length_there}
use Rattle.config.proofs.decode.ipdu_length.Goals as goal

pub returns-in_err-c : goal.returns-in_err-c
returns-in_err-c c = search (rules, no_length)

pub returns-then-c-number : goal.returns-then-c-number
returns-then-c-number c = search (rules, length_past)

pub ipdu_record-r-requires : goal.ipdu_record-r-requires
ipdu_record-r-requires c = search (rules, table_shape)

pub returns : goal.returns
returns c = length_there _ c.check.ensures c.ok.ensures.value c.in_ok-c.was _ c.if-c-number.false c.ipdu_record-r.ensures
