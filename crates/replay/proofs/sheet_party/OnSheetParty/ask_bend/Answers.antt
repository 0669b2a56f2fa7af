use Rattle.std.proofs.Common.{◌≡◌, length, take, Err, refl, sym, ap, ◌∙◌, rules}
use Rattle.tape.proofs.Answering.{not_declined, why_declined}
use Rattle.sweep.specs.Refusals.{refuse_bend}
use Rattle.replay.specs.declared.queries.Query.TheVariants.{Bend}
use Rattle.replay.proofs.Replying.{bend_reply, front_of, roomy_bend, sheet_declines}
use Rattle.replay.proofs.sheet_party.OnSheetParty.ask_bend.Goals as goal

pub returns-in_err-bend : goal.returns-in_err-bend
returns-in_err-bend g c = λ enough.
    let o = g.K.Kind.ops in
    let m = g.K.Kind.means in
    let controls = c.args.self.now.controls.now in
    let t = g.S.Sheet.tape c.args.self.now.sheet.now in
    let valid = g.S.Sheet.keeps c.args.self.now.sheet.now in
    let pairs_long : length c.as_mut_slice.result.now ≡ 1152 = search rules in
    let adjoint_long : length c.as_mut_slice-2.result.now ≡ 1152 = search rules in
    let out_long : length c.as_mut_slice-3.result.now ≡ 1152 = search rules in
    let is : c.from_residual.result ≡ Err c.in_err-bend.field-0.0 = search rules in
    sheet_declines o t _ m (Bend c.args.r c.args.direction) _ (refuse_bend t (length controls) (length c.args.direction.now) (length c.as_mut_slice.result.now) (length c.as_mut_slice-2.result.now) (length c.as_mut_slice-3.result.now) c.args.r) _ _ _ refl (roomy_bend t valid c.args.r (length controls) (length c.args.direction.now) (length c.as_mut_slice.result.now) (length c.as_mut_slice-2.result.now) (length c.as_mut_slice-3.result.now) enough pairs_long adjoint_long out_long) is (why_declined (refuse_bend t (length controls) (length c.args.direction.now) (length c.as_mut_slice.result.now) (length c.as_mut_slice-2.result.now) (length c.as_mut_slice-3.result.now) c.args.r) _ _ _ c.in_err-bend.ensures)

pub returns : goal.returns
returns g c = λ enough.
    let o = g.K.Kind.ops in
    let m = g.K.Kind.means in
    let controls = c.args.self.now.controls.now in
    let t = g.S.Sheet.tape c.args.self.now.sheet.now in
    let valid = g.S.Sheet.keeps c.args.self.now.sheet.now in
    let pairs_long : length c.as_mut_slice.result.now ≡ 1152 = search rules in
    let adjoint_long : length c.as_mut_slice-2.result.now ≡ 1152 = search rules in
    let out_long : length c.as_mut_slice-3.result.now ≡ 1152 = search rules in
    let long : length c.bend.new.out ≡ c.args.rows.row.len = search rules in
    let first = front_of _ _ c.bend.new.out _ c.truncate.new.self.items long c.truncate.ensures.items ∙ ap (λ n. take n c.bend.new.out) c.controls.ensures in
    let h = not_declined (refuse_bend t (length controls) (length c.args.direction.now) (length c.as_mut_slice.result.now) (length c.as_mut_slice-2.result.now) (length c.as_mut_slice-3.result.now) c.args.r) tt _ _ c.in_ok-bend.ensures in
    bend_reply o t _ m c.args.r _ _ _ first (sym (roomy_bend t valid c.args.r (length controls) (length c.args.direction.now) (length c.as_mut_slice.result.now) (length c.as_mut_slice-2.result.now) (length c.as_mut_slice-3.result.now) enough pairs_long adjoint_long out_long) ∙ h.0) h.1.bend
