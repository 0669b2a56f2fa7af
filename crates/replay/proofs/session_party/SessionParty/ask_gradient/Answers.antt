use Rattle.std.proofs.Common.{◌≡◌, length, take, ap, ◌∙◌, arith, rules}
use Rattle.session.specs.Queries.{WasGraded}
use Rattle.session.specs.States.{state}
use Rattle.sweep.specs.Refusals.{refuse_backward}
use Rattle.tape.specs.Tables.{table_valid}
use Rattle.tape.proofs.Answering.{not_declined}
use Rattle.replay.proofs.Replying.{front_of}
use Rattle.replay.proofs.Sessions.{gradient_says}
use Rattle.replay.proofs.session_party.SessionParty.ask_gradient.Goals as goal

pub returns : goal.returns
returns g c = λ good.
    let o = g.K.Kind.ops in
    let m = g.K.Kind.means in
    let s = state c.args.self.now in
    let s' = state c.gradient.new.self in
    let r = c.args.r in
    let a = c.in_ok-answer.answer in
    let old = c.as_mut_slice.result.now in
    let new = c.gradient.new.adjoint in
    let h = not_declined (refuse_backward s.tape (length s.row) (length old) r) a _ (λ b. WasGraded o m s r old b s' new) c.in_ok-answer.ensures in
    let long : length old ≡ 1152 = search rules in
    let count : c.control_count.result ≡ s.tape.controls = c.control_count.ensures ∙ ap (λ u. u.controls) (h.1.asked.after.tape) in
    let whole : length new ≡ c.args.rows.adjoint.len = search rules in
    let first = front_of _ _ new _ c.truncate.new.self.items whole c.truncate.ensures.items ∙ ap (λ n. take n new) count in
    gradient_says o m s s' (table_valid c.args.self.now.table) r g.K.Kind.laws good old new _ a (omega arith) c.gradient.auto.adjoint first h.0 h.1
