use Rattle.std.proofs.Common.{◌≡◌, length, Err, refl, arith, rules}
use Rattle.export.proofs.Exporting.{why_declined}
use Rattle.packed.specs.Formats.{tape_of}
use Rattle.packed.specs.Looks.{fault_of}
use Rattle.sweep.specs.Refusals.{refuse_slope}
use Rattle.replay.specs.declared.queries.Query.TheVariants.{Slope}
use Rattle.replay.proofs.Replying.{file_declines, file_valid, roomy_slope}
use Rattle.replay.proofs.file_party.OnFileParty.ask_slope.Goals as goal

pub returns-in_err-x : goal.returns-in_err-x
returns-in_err-x g c = λ count none.
    let o = g.K.Kind.ops in
    let m = g.K.Kind.means in
    let file = c.args.self.now.file.now in
    let controls = c.args.self.now.controls.now in
    let t = tape_of file in
    let valid = file_valid file none in
    let pairs_long : length c.as_mut_slice.result.now ≡ 1152 = search rules in
    let is : c.from_residual.result ≡ Err c.in_err-x.field-0.0 = search rules in
    file_declines o t _ m (Slope c.args.r c.args.direction) _ (refuse_slope t (length controls) (length c.args.direction.now) (length c.as_mut_slice.result.now) c.args.r) _ _ _ refl (roomy_slope t valid c.args.r (length controls) (length c.args.direction.now) (length c.as_mut_slice.result.now) (omega (arith, count)) pairs_long) is (why_declined (fault_of file) _ _ _ _ none c.in_err-x.ensures)
