use Rattle.std.proofs.Common.{◌≡◌, map, take}
use Rattle.sweep.proofs.reverse.copy_tangents.Given as goal

abbrev pub invariant-loop-i : goal.invariant-loop-i
invariant-loop-i g l = take l.i l.out ≡ map (λ p. p.tangent) (take l.i l.pairs)
