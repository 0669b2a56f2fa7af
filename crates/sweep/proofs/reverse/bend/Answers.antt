use Rattle.std.proofs.Common.{◌≡◌, ◌<◌, ◌≤◌, map, length, None, ap₂, arith}
use Rattle.std.proofs.lemmas.Bool.Decides.{nat_tests}
use Rattle.kind.specs.Dual.{dual, dual_laws, dual_operations}
use Rattle.tape.specs.Rows.{unit}
use Rattle.tape.specs.Tapes.{registers}
use Rattle.tape.specs.Values.{values}
use Rattle.tape.proofs.Answering.{accepted}
use Rattle.sweep.specs.Forward.{given, paired}
use Rattle.sweep.specs.Refusals.{refuse_bend}
use Rattle.sweep.specs.Reverse.{Transposes}
use Rattle.sweep.proofs.Bends.{bend_is, bend_written, later_written}
use Rattle.sweep.proofs.Gradients.{adjoint_is, gradient_is, transposes_filled}
use Rattle.sweep.proofs.Pairing.{paired_given}
use Rattle.sweep.proofs.Sweeping.{part_fills, given_part, given_length, given_size}
use Rattle.sweep.proofs.reverse.bend.Goals as goal

pub returns : goal.returns
returns g c =
    let m = g.K.Kind.means in
    let laws = g.K.Kind.laws in
    let p = dual_operations g.K.Kind.ops in
    let t = g.S.Sheet.tape c.args.sheet.now in
    let valid = g.S.Sheet.keeps c.args.sheet.now in
    let controls = c.args.controls.now in
    let direction = c.args.direction.now in
    let cs = given m t controls in
    let ds = given m t direction in
    let old = c.args.row.now in
    let before = c.args.adjoint.now in
    let out = c.args.out.now in
    let r = c.args.r in
    let n_is = c.controls-n.ensures in
    let registers_is = c.registers-registers.ensures in
    let known = c.in_ok-check_query.ensures.known in
    let adjoint = c.walk.new.adjoint in
    let free : refuse_bend t (length controls) (length direction) (length old) (length before) (length out) r ≡ None = grind (arith, nat_tests) in
    let many : t.controls ≤ length controls = grind (arith, nat_tests) in
    let directed : t.controls ≤ length direction = grind (arith, nat_tests) in
    let written : t.controls ≤ length out = grind (arith, nat_tests) in
    let out_room : c.controls-n.result ≤ length out = omega arith in
    let within : r < length old = grind (arith, nat_tests) in
    let room : registers t ≤ length before = grind (arith, nat_tests) in
    let enough : c.registers-registers.result ≤ length before = omega arith in
    let cs_is = given_length m t controls many in
    let ds_is = given_length m t direction directed in
    let fills = part_fills p (dual m) t (paired cs ds) r old c.load_pairs.new.row c.sweep_lines.new.row _ _ (given_size t _ controls n_is many)
    (ap₂ paired (given_part m t _ controls n_is) (given_part m t _ direction n_is)) (paired_given cs ds cs_is ds_is)
    within c.load_pairs.auto.row c.sweep_lines.auto.row c.load_pairs.ensures c.sweep_lines.ensures in
    let law : Transposes p (values p (paired cs ds) t.lines) t (unit p (registers t) r) (map (dual m) adjoint) =
    transposes_filled p (dual m) t valid r known (dual_laws laws) (paired cs ds) old _ fills (map (dual m) adjoint) c.walk.ensures.transposes in
    let gradient = gradient_is (dual_laws laws) (dual m) t r known before adjoint _ registers_is enough c.walk.auto.adjoint (paired cs ds) law in
    accepted _ _ _ _ free (record {
      row = fills;
      adjoint = adjoint_is (dual_laws laws) (dual m) t r known before adjoint _ registers_is enough c.walk.auto.adjoint _ law;
      bend = bend_written m t out c.copy_tangents.new.out _ n_is out_room _ c.copy_tangents.ensures
          (bend_is laws t valid cs ds cs_is ds_is r _ gradient);
      later = later_written m t out c.copy_tangents.new.out _ n_is out_room c.copy_tangents.auto.out;
    })
