use Rattle.std.proofs.Common.{◌≡◌, ◌<◌, ◌≤◌, length, None, ap, ◌∙◌, ap₂, arith}
use Rattle.std.proofs.lemmas.Bool.Decides.{nat_tests}
use Rattle.kind.specs.Dual.{dual, dual_operations}
use Rattle.tape.proofs.Answering.{accepted}
use Rattle.sweep.specs.Forward.{given, paired}
use Rattle.sweep.specs.Refusals.{refuse_slope}
use Rattle.sweep.proofs.Differentiating.{slope_is}
use Rattle.sweep.proofs.Pairing.{paired_given}
use Rattle.sweep.proofs.Sweeping.{part_fills, filled_at, given_part, given_length, given_size}
use Rattle.sweep.proofs.forward.slope.Goals as goal

pub returns : goal.returns
returns g c =
    let o = g.K.Kind.ops in
    let m = g.K.Kind.means in
    let t = g.S.Sheet.tape c.args.sheet.now in
    let controls = c.args.controls.now in
    let direction = c.args.direction.now in
    let cs = given m t controls in
    let ds = given m t direction in
    let old = c.args.row.now in
    let r = c.args.r in
    let n_is = c.controls-n.ensures in
    let free : refuse_slope t (length controls) (length direction) (length old) r ≡ None = grind (arith, nat_tests) in
    let many : t.controls ≤ length controls = grind (arith, nat_tests) in
    let directed : t.controls ≤ length direction = grind (arith, nat_tests) in
    let within : r < length old = grind (arith, nat_tests) in
    let cs_is = given_length m t controls many in
    let ds_is = given_length m t direction directed in
    let fills = part_fills (dual_operations o) (dual m) t (paired cs ds) r old c.load_pairs.new.row c.sweep_lines.new.row _ _ (given_size t _ controls n_is many)
    (ap₂ paired (given_part m t _ controls n_is) (given_part m t _ direction n_is)) (paired_given cs ds cs_is ds_is)
    within c.load_pairs.auto.row c.sweep_lines.auto.row c.load_pairs.ensures c.sweep_lines.ensures in
    accepted _ _ _ _ free (record {
      row = fills;
      answer = ap (λ p. p.tangent) (filled_at (dual_operations o) (dual m) t (paired cs ds) r old _ _ fills c.entry.ensures)
          ∙ slope_is g.K.Kind.laws t (g.S.Sheet.keeps c.args.sheet.now) cs ds cs_is ds_is r;
    })
