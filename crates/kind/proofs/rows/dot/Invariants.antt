use Rattle.std.proofs.Common.{◌≡◌, map, length, take}
use Rattle.kind.specs.Rows.{dot_product}
use Rattle.kind.proofs.rows.dot.Given as goal

abbrev pub invariant-loop-x : goal.invariant-loop-x
invariant-loop-x g l =
    let k = g.K.Kind in
    let n = length l.yielded in
    k.means l.sum ≡ dot_product k.ops (map k.means (take n l.xs)) (map k.means (take n l.ys))
