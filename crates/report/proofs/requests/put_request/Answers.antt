-- `report::requests::put_request`: ` req`, the number, a blank and the bytes; each has room within 24 bytes.
-- Assumes nothing.
use Rattle.std.proofs.Common.{arith, length-set}
use Rattle.report.proofs.RequestTexts.{number_room, number_behind, record_few, request_put}
use Rattle.report.proofs.requests.put_request.Goals as goal

pub put_number-end-requires : goal.put_number-end-requires
put_number-end-requires c =
    number_room c.args.t.now c.args.number.0 c.args.at c.requires.in_table c.requires.at_in_bounds c.put_text-behind.ensures

-- behind the number there is room for a blank and 16 digits
pub bounds-out-end : goal.bounds-out-end
bounds-out-end c =
    let put = number_behind c.args.t.now c.args.number.0 c.args.at c.requires.in_table c.requires.at_in_bounds c.put_text-behind.ensures c.put_number-end.ensures in
    omega (arith, put.0, put.1)

pub overflow_add-end : goal.overflow_add-end
overflow_add-end c =
    let put = number_behind c.args.t.now c.args.number.0 c.args.at c.requires.in_table c.requires.at_in_bounds c.put_text-behind.ensures c.put_number-end.ensures in
    omega (arith, put.0, c.well_formed)

-- the bytes of the I-PDU are at most 8
pub put_hex-requires : goal.put_hex-requires
put_hex-requires c =
    let put = number_behind c.args.t.now c.args.number.0 c.args.at c.requires.in_table c.requires.at_in_bounds c.put_text-behind.ensures c.put_number-end.ensures in
    let few = record_few c.args.t.now c.args.number.0 c.requires.in_table c.ipdu_record-record.ensures in
    record {
      n_in_bounds = omega (arith, few, c.requires.in_table.number, c.requires.area_size_in_bounds);
      n_in_bounds_2 = simp length-set (omega (arith, few, put.0, put.1));
    }

pub returns : goal.returns
returns c =
    request_put c.args.t.now c.args.area.now c.args.number.0 c.args.at _ _ _ _ c.ipdu_record-record.ensures c.put_text-behind.ensures c.put_number-end.ensures
    c.put_hex.ensures
