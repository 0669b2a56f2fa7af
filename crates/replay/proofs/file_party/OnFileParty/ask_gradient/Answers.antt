use Rattle.std.proofs.Common.{◌≡◌, length, take, Err, refl, sym, ap, ◌∙◌, arith, rules}
use Rattle.export.proofs.Exporting.{not_declined, why_declined}
use Rattle.packed.specs.Formats.{tape_of}
use Rattle.packed.specs.Looks.{fault_of}
use Rattle.sweep.specs.Refusals.{refuse_gradient}
use Rattle.replay.specs.declared.queries.Query.TheVariants.{Gradient}
use Rattle.replay.proofs.Replying.{file_declines, file_valid, front_of, gradient_reply, roomy_gradient}
use Rattle.replay.proofs.file_party.OnFileParty.ask_gradient.Goals as goal

pub returns-in_err-answer : goal.returns-in_err-answer
returns-in_err-answer g c = λ count none.
    let o = g.K.Kind.ops in
    let m = g.K.Kind.means in
    let file = c.args.self.now.file.now in
    let controls = c.args.self.now.controls.now in
    let t = tape_of file in
    let valid = file_valid file none in
    let row_long : length c.as_mut_slice-work.result.now ≡ 1152 = search rules in
    let adjoint_long : length c.as_mut_slice-back.result.now ≡ 1152 = search rules in
    let is : c.from_residual.result ≡ Err c.in_err-answer.field-0.0 = search rules in
    file_declines o t _ m (Gradient c.args.r) _ (refuse_gradient t (length controls) (length c.as_mut_slice-work.result.now) (length c.as_mut_slice-back.result.now) c.args.r) _ _ _ refl (roomy_gradient t valid c.args.r (length controls) (length c.as_mut_slice-work.result.now) (length c.as_mut_slice-back.result.now) (omega (arith, count)) row_long adjoint_long) is (why_declined (fault_of file) _ _ _ _ none c.in_err-answer.ensures)

pub returns : goal.returns
returns g c = λ count none.
    let o = g.K.Kind.ops in
    let m = g.K.Kind.means in
    let file = c.args.self.now.file.now in
    let controls = c.args.self.now.controls.now in
    let t = tape_of file in
    let valid = file_valid file none in
    let row_long : length c.as_mut_slice-work.result.now ≡ 1152 = search rules in
    let adjoint_long : length c.as_mut_slice-back.result.now ≡ 1152 = search rules in
    let long : length c.gradient.new.adjoint ≡ c.args.rows.adjoint.len = search rules in
    let first = front_of _ _ c.gradient.new.adjoint _ c.truncate.new.self.items long c.truncate.ensures.items ∙ ap (λ n. take n c.gradient.new.adjoint) count in
    let h = not_declined (fault_of file) (refuse_gradient t (length controls) (length c.as_mut_slice-work.result.now) (length c.as_mut_slice-back.result.now) c.args.r) _ _ c.in_ok-answer.answer c.in_ok-answer.ensures in
    gradient_reply o t _ m c.args.r _ _ _ _ first (sym (roomy_gradient t valid c.args.r (length controls) (length c.as_mut_slice-work.result.now) (length c.as_mut_slice-back.result.now) (omega (arith, count)) row_long adjoint_long) ∙ h.0) h.1.value_is h.1.gradient h.1.operations_are
