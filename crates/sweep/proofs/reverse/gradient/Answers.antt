use Rattle.std.proofs.Common.{◌≡◌, ◌<◌, ◌≤◌, map, length, None, arith}
use Rattle.std.proofs.lemmas.Bool.Decides.{nat_tests}
use Rattle.tape.specs.Rows.{unit}
use Rattle.tape.specs.Tapes.{registers}
use Rattle.tape.specs.Values.{values}
use Rattle.tape.proofs.Answering.{accepted}
use Rattle.sweep.specs.Forward.{given}
use Rattle.sweep.specs.Refusals.{refuse_gradient}
use Rattle.sweep.specs.Reverse.{Transposes}
use Rattle.sweep.proofs.Counting.{counted}
use Rattle.sweep.proofs.Gradients.{adjoint_is, gradient_is, transposes_filled}
use Rattle.sweep.proofs.Sweeping.{part_fills, filled_at, given_part, given_length, given_size}
use Rattle.sweep.proofs.reverse.gradient.Goals as goal

pub returns : goal.returns
returns g c =
    let o = g.K.Kind.ops in
    let m = g.K.Kind.means in
    let laws = g.K.Kind.laws in
    let t = g.S.Sheet.tape c.args.sheet.now in
    let valid = g.S.Sheet.keeps c.args.sheet.now in
    let controls = c.args.controls.now in
    let cs = given m t controls in
    let old = c.args.row.now in
    let before = c.args.adjoint.now in
    let r = c.args.r in
    let known = c.in_ok-check_query.ensures.known in
    let adjoint = c.walk-operations.new.adjoint in
    let free : refuse_gradient t (length controls) (length old) (length before) r ≡ None = grind (arith, nat_tests) in
    let many : t.controls ≤ length controls = grind (arith, nat_tests) in
    let within : r < length old = grind (arith, nat_tests) in
    let room : registers t ≤ length before = grind (arith, nat_tests) in
    let enough : c.registers-registers.result ≤ length before = omega arith in
    let fills = part_fills o m t cs r old c.load.new.row c.sweep_lines.new.row _ _ (given_size t _ controls c.controls-n.ensures many) (given_part m t _ controls c.controls-n.ensures)
    (given_length m t controls many) within c.load.auto.row c.sweep_lines.auto.row c.load.ensures c.sweep_lines.ensures in
    let law : Transposes o (values o cs t.lines) t (unit o (registers t) r) (map m adjoint) =
    transposes_filled o m t valid r known laws cs old _ fills (map m adjoint) c.walk-operations.ensures.transposes in
    let registers_is = c.registers-registers.ensures in
    accepted _ _ _ _ free (record {
      row = fills;
      adjoint = adjoint_is laws m t r known before adjoint _ registers_is enough c.walk-operations.auto.adjoint _ law;
      gradient = gradient_is laws m t r known before adjoint _ registers_is enough c.walk-operations.auto.adjoint cs law;
      value_is = filled_at o m t cs r old _ _ fills c.entry-value.ensures;
      operations_are = counted t r _ c.walk-operations.ensures.count;
    })
