-- `commands::performing::call_of_object`: the arm tells what is asked, and its call answers that.
-- Assumes nothing.
use Rattle.std.proofs.Common.{[]}
use Rattle.commands.proofs.Performed.{asked}
use Rattle.commands.proofs.performing.call_of_object.Goals as goal

pub returns-in-Receive : goal.returns-in-Receive
returns-in-Receive c =
    let got = asked {t = c.args.t.now} {c = c.args.c} [] [] c.requires c.args.i c.in-Receive.is c.receive.ensures in
    record { m_after = got.0; ready = got.1 }

pub returns-in-Status : goal.returns-in-Status
returns-in-Status c =
    let got = asked {t = c.args.t.now} {c = c.args.c} [] [] c.requires c.args.i c.in-Status.is c.status.ensures in
    record { m_after = got.0; ready = got.1 }

pub returns-in-Marks : goal.returns-in-Marks
returns-in-Marks c =
    let got = asked {t = c.args.t.now} {c = c.args.c} [] [] c.requires c.args.i c.in-Marks.is c.marks.ensures in
    record { m_after = got.0; ready = got.1 }

pub returns-in-ClearMarks : goal.returns-in-ClearMarks
returns-in-ClearMarks c =
    let got = asked {t = c.args.t.now} {c = c.args.c} [] [] c.requires c.args.i c.in-ClearMarks.is c.clear_marks.ensures in
    record { m_after = got.0; ready = got.1 }
