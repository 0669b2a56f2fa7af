use Rattle.std.proofs.Common.{◌≡◌, length, take, Err, refl, sym, ap, ◌∙◌, arith, rules}
use Rattle.export.proofs.Exporting.{not_declined, why_declined}
use Rattle.packed.specs.Formats.{tape_of}
use Rattle.packed.specs.Looks.{fault_of}
use Rattle.sweep.specs.Refusals.{refuse_bend}
use Rattle.replay.specs.declared.queries.Query.TheVariants.{Bend}
use Rattle.replay.proofs.Replying.{bend_reply, file_declines, file_valid, front_of, roomy_bend}
use Rattle.replay.proofs.file_party.OnFileParty.ask_bend.Goals as goal

pub returns-in_err-bend : goal.returns-in_err-bend
returns-in_err-bend g c = λ count none.
    let o = g.K.Kind.ops in
    let m = g.K.Kind.means in
    let file = c.args.self.now.file.now in
    let controls = c.args.self.now.controls.now in
    let t = tape_of file in
    let valid = file_valid file none in
    let pairs_long : length c.as_mut_slice.result.now ≡ 1152 = search rules in
    let adjoint_long : length c.as_mut_slice-2.result.now ≡ 1152 = search rules in
    let out_long : length c.as_mut_slice-3.result.now ≡ 1152 = search rules in
    let is : c.from_residual.result ≡ Err c.in_err-bend.field-0.0 = search rules in
    file_declines o t _ m (Bend c.args.r c.args.direction) _ (refuse_bend t (length controls) (length c.args.direction.now) (length c.as_mut_slice.result.now) (length c.as_mut_slice-2.result.now) (length c.as_mut_slice-3.result.now) c.args.r) _ _ _ refl (roomy_bend t valid c.args.r (length controls) (length c.args.direction.now) (length c.as_mut_slice.result.now) (length c.as_mut_slice-2.result.now) (length c.as_mut_slice-3.result.now) (omega (arith, count)) pairs_long adjoint_long out_long) is (why_declined (fault_of file) _ _ _ _ none c.in_err-bend.ensures)

pub returns : goal.returns
returns g c = λ count none.
    let o = g.K.Kind.ops in
    let m = g.K.Kind.means in
    let file = c.args.self.now.file.now in
    let controls = c.args.self.now.controls.now in
    let t = tape_of file in
    let valid = file_valid file none in
    let pairs_long : length c.as_mut_slice.result.now ≡ 1152 = search rules in
    let adjoint_long : length c.as_mut_slice-2.result.now ≡ 1152 = search rules in
    let out_long : length c.as_mut_slice-3.result.now ≡ 1152 = search rules in
    let long : length c.bend.new.out ≡ c.args.rows.row.len = search rules in
    let first = front_of _ _ c.bend.new.out _ c.truncate.new.self.items long c.truncate.ensures.items ∙ ap (λ n. take n c.bend.new.out) count in
    let h = not_declined (fault_of file) (refuse_bend t (length controls) (length c.args.direction.now) (length c.as_mut_slice.result.now) (length c.as_mut_slice-2.result.now) (length c.as_mut_slice-3.result.now) c.args.r) _ _ tt c.in_ok-bend.ensures in
    bend_reply o t _ m c.args.r _ _ _ first (sym (roomy_bend t valid c.args.r (length controls) (length c.args.direction.now) (length c.as_mut_slice.result.now) (length c.as_mut_slice-2.result.now) (length c.as_mut_slice-3.result.now) (omega (arith, count)) pairs_long adjoint_long out_long) ∙ h.0) h.1.bend
