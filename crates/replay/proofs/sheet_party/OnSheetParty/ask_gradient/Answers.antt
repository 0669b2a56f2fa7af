use Rattle.std.proofs.Common.{◌≡◌, length, take, sym, ap, ◌∙◌, rules}
use Rattle.tape.proofs.Answering.{not_declined}
use Rattle.sweep.specs.Refusals.{refuse_gradient}
use Rattle.replay.proofs.Replying.{front_of, gradient_reply, roomy_gradient}
use Rattle.replay.proofs.sheet_party.OnSheetParty.ask_gradient.Goals as goal

pub returns : goal.returns
returns g c = λ enough.
    let o = g.K.Kind.ops in
    let m = g.K.Kind.means in
    let controls = c.args.self.now.controls.now in
    let t = g.S.Sheet.tape c.args.self.now.sheet.now in
    let valid = g.S.Sheet.keeps c.args.self.now.sheet.now in
    let row_long : length c.as_mut_slice-work.result.now ≡ 1152 = search rules in
    let adjoint_long : length c.as_mut_slice-back.result.now ≡ 1152 = search rules in
    let long : length c.gradient.new.adjoint ≡ c.args.rows.adjoint.len = search rules in
    let first = front_of _ _ c.gradient.new.adjoint _ c.truncate.new.self.items long c.truncate.ensures.items ∙ ap (λ n. take n c.gradient.new.adjoint) c.controls.ensures in
    let h = not_declined (refuse_gradient t (length controls) (length c.as_mut_slice-work.result.now) (length c.as_mut_slice-back.result.now) c.args.r) c.in_ok-answer.answer _ _ c.in_ok-answer.ensures in
    gradient_reply o t _ m c.args.r _ _ _ _ first (sym (roomy_gradient t valid c.args.r (length controls) (length c.as_mut_slice-work.result.now) (length c.as_mut_slice-back.result.now) enough row_long adjoint_long) ∙ h.0) h.1.value_is h.1.gradient h.1.operations_are
