use Rattle.std.proofs.Common.{◌≡◌, ◌++◌, map, length, take, drop, sym, ap, ◌∙◌, arith}
use Rattle.std.proofs.lemmas.Grind.{common_steps}
use Rattle.std.proofs.lemmas.List.{take-map}
use Rattle.sweep.proofs.filling.load.Goals as goal

pub returns : goal.returns
returns g c =
    let m = g.K.Kind.means in
    let controls = c.args.controls.now in
    let copied : take (length controls) (c.copy_from_slice.new.self ++ drop c.min-both.result c.args.row.now) ≡ take (length c.args.row.now) controls = grind (arith, common_steps) in
    take-map m (length controls) _ ∙ ap (map m) copied ∙ sym (take-map m (length c.args.row.now) controls)
