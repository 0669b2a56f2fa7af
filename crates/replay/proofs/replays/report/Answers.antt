use Rattle.std.proofs.Common.{take, subst}
use Rattle.session.specs.States.{state}
use Rattle.tape.specs.Tables.{table_valid}
use Rattle.replay.specs.Answers.{exported, said}
use Rattle.replay.specs.Parties.{FileReplied, SheetReplied}
use Rattle.replay.specs.Replies.{Front, ReplyOf}
use Rattle.replay.proofs.Ending.{consistent}
use Rattle.replay.proofs.Telling.{as_export_is}
use Rattle.replay.proofs.replays.report.Goals as goal

pub returns : goal.returns
returns g c =
    let o = g.K.Kind.ops in
    let m = g.K.Kind.means in
    let query = c.args.query.now in
    let controls = c.in_ok-controls.controls.items in
    let row = c.in_ok-row.row.items in
    let by_session = c.ask-by_session.result in
    let from_file = c.ask-from_file.result in
    let on_sheet = c.ask-on_sheet.result in
    let session_is = subst (λ a. ReplyOf o m a c.of.result) (as_export_is by_session c.map_err.result c.map_err.ensures.cases) c.of.ensures in
    let sheet_is = subst (λ a. ReplyOf o m a c.of-3.result) (as_export_is on_sheet c.map_err-2.result c.map_err-2.ensures.cases) c.of-3.ensures in
    let file_answers = subst (λ cs. FileReplied o m (take c.save_file-length.result c.save_file-length.new.file) cs query (exported m from_file)) c.deref.ensures.value c.ask-from_file.ensures in
    let sheet_answers = subst (λ cs. SheetReplied o m (g.S.Sheet.tape c.args.sheet.now) cs query (said m on_sheet)) c.deref-2.ensures.value c.ask-on_sheet.ensures in
    let front = subst (λ cs. Front o m cs c.front.result) c.deref-3.ensures.value c.front.ensures in
    consistent o m (state c.args.session.now) (table_valid c.args.session.now.table) query (g.S.Sheet.tape c.args.sheet.now) _ controls row by_session from_file on_sheet
    c.in_ok-controls.ensures.given c.in_ok-controls.ensures.count c.in_ok-row.ensures.given c.in_ok-row.ensures.count c.save_file-length.ensures front
    c.ask-by_session.ensures session_is file_answers c.of-2.ensures sheet_answers sheet_is
