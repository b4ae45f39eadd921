-- The examples of W-206, proved by computation from the definitions.
-- Assumes nothing.
use Rattle.std.proofs.Common.{[], ◌≡◌, refl}
use Rattle.memory.specs.Texts.{decimal}
use Rattle.memory.specs.Integers.{integer, less_than}
use Rattle.config.specs.Decode.{is_signed}
use Rattle.queue.specs.Queues.{waiting}
use Rattle.layer.specs.Promises.{refusal, received, status_read, marks_read, marks_cleared, waiting_for, reads_signed}
use Rattle.sheet.specs.Layout.{begun_at, followed_at, row_at, with_row, sheet_in_range}
use Rattle.sheet.specs.Numbers.{with_reply, with_marks}
use Rattle.sheet.specs.Drains.{take_up_to, take_all, drain_queue, see_marks, drain_object, drain_each}
use Rattle.sheet.specs.Lines.{value_field, row_numbers, row_line, row_lines}
use Rattle.sheet.specs.Sheets.{objects_refusal, sheet_head, new_sheet, begin, drain}
use Rattle.cases.proofs.Definitions.{definitions}
use Rattle.sheet_cases.specs.SheetCases.{played, two_cases, counted, counted_shows, restarted, restarted_shows, marked, marked_shows}
use Rattle.sheet_cases.specs.SheetCases.{refused, refused_shows, refused_later, refused_later_shows, wrong_table, wrong_table_shows}

-- all that a begin or a drain goes through
unfoldable pub sheet_definitions : Unit {0}
unfolding integer less_than is_signed reads_signed refusal received status_read marks_read marks_cleared waiting waiting_for begun_at followed_at row_at with_row sheet_in_range with_reply with_marks
sheet_definitions = tt

unfoldable pub drain_definitions : Unit {0}
unfolding take_up_to take_all drain_queue see_marks drain_object drain_each decimal value_field row_numbers row_line row_lines objects_refusal sheet_head new_sheet begin drain
drain_definitions = tt

pub sheets_count : (played two_cases counted ≡ counted_shows) × (played two_cases restarted ≡ restarted_shows) × (played two_cases marked ≡ marked_shows)
unfolding definitions sheet_definitions drain_definitions
sheets_count = (refl, refl, refl)

pub sheets_refuse : (played two_cases refused ≡ refused_shows) × (played two_cases refused_later ≡ refused_later_shows) × (played [] wrong_table ≡ wrong_table_shows)
unfolding definitions sheet_definitions drain_definitions
sheets_refuse = (refl, refl, refl)
