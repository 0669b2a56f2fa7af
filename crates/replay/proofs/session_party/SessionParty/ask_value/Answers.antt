use Rattle.std.proofs.Common.{length}
use Rattle.session.specs.Refusals.{refuse_value}
use Rattle.session.specs.States.{state, WasAsked}
use Rattle.tape.specs.Tables.{table_valid}
use Rattle.tape.proofs.Answering.{not_declined}
use Rattle.replay.proofs.Sessions.{value_says}
use Rattle.replay.proofs.session_party.SessionParty.ask_value.Goals as goal

pub returns : goal.returns
returns g c = λ good.
    let o = g.K.Kind.ops in
    let m = g.K.Kind.means in
    let s = state c.args.self.now in
    let s' = state c.value.new.self in
    let r = c.args.r in
    let a = c.in_ok-answer.answer in
    let h = not_declined (refuse_value s.tape (length s.row) r) a _ (λ b. WasAsked o m s r b.value b.worked s') c.in_ok-answer.ensures in
    value_says o m s s' (table_valid c.args.self.now.table) r good a.value a.worked h.0 h.1
