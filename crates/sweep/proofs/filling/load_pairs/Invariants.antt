use Rattle.std.proofs.Common.{◌≡◌, map, take}
use Rattle.kind.specs.Dual.{dual}
use Rattle.sweep.specs.Forward.{paired}
use Rattle.sweep.proofs.filling.load_pairs.Given as goal

abbrev pub invariant-loop-i : goal.invariant-loop-i
invariant-loop-i g l =
    let means = g.K.Kind.means in
    take l.i (map (dual means) l.pair-items) ≡ take l.i (paired (map means l.controls) (map means l.direction))
