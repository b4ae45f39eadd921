-- `delivery::frame_turn`: an object of this I-PDU has its bits inside memory.
-- Assumes nothing.
use Rattle.std.proofs.Common.{rules}
use Rattle.message.proofs.ObjectsInRange.{right_start, decoded_placed}
use Rattle.delivery.proofs.Turns.{frame_number}
use Rattle.delivery.proofs.frame_turn.Goals as goal

pub decode_object-requires-clause-number_bound : goal.decode_object-requires-clause-number_bound
decode_object-requires-clause-number_bound c = search (rules, right_start)

pub unpack-reading-requires-clause-placed : goal.unpack-reading-requires-clause-placed
unpack-reading-requires-clause-placed c = search (rules, decoded_placed)

pub unpack-reading-requires-clause-ipdu_lt_most_ipdus : goal.unpack-reading-requires-clause-ipdu_lt_most_ipdus
unpack-reading-requires-clause-ipdu_lt_most_ipdus c = search (rules, frame_number)
