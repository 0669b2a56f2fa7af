use Rattle.std.proofs.Common.{◌≡◌, ◌<◌, ◌≤◌, length, None, arith}
use Rattle.std.proofs.lemmas.Bool.Decides.{nat_tests}
use Rattle.tape.proofs.Answering.{accepted}
use Rattle.sweep.specs.Forward.{given}
use Rattle.sweep.specs.Refusals.{refuse_value}
use Rattle.sweep.proofs.Sweeping.{part_fills, filled_at, given_part, given_length, given_size}
use Rattle.sweep.proofs.forward.value.Goals as goal

pub returns : goal.returns
returns g c =
    let o = g.K.Kind.ops in
    let m = g.K.Kind.means in
    let t = g.S.Sheet.tape c.args.sheet.now in
    let controls = c.args.controls.now in
    let cs = given m t controls in
    let old = c.args.row.now in
    let r = c.args.r in
    let free : refuse_value t (length controls) (length old) r ≡ None = grind (arith, nat_tests) in
    let many : t.controls ≤ length controls = grind (arith, nat_tests) in
    let within : r < length old = grind (arith, nat_tests) in
    let fills = part_fills o m t cs r old c.load.new.row c.sweep_lines.new.row _ _ (given_size t _ controls c.controls-n.ensures many) (given_part m t _ controls c.controls-n.ensures)
    (given_length m t controls many) within c.load.auto.row c.sweep_lines.auto.row c.load.ensures c.sweep_lines.ensures in
    accepted _ _ _ _ free (record { row = fills; answer = filled_at o m t cs r old _ _ fills c.entry.ensures })
