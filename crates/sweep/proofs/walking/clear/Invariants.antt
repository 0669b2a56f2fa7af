use Rattle.std.proofs.Common.{◌≡◌, map, take, replicate}
use Rattle.sweep.proofs.walking.clear.Given as goal

abbrev pub invariant-loop-x : goal.invariant-loop-x
invariant-loop-x g l = take l.x-index (map g.K.Kind.means l.row) ≡ replicate l.x-index g.K.Kind.ops.zero
