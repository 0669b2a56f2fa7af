use Rattle.std.proofs.Common.{◌≡◌, ◌+◌, ◌-◌, map, take, sum_by}
use Rattle.tape.specs.Rows.{unit}
use Rattle.tape.specs.Tapes.{registers}
use Rattle.tape.specs.Values.{backward_cost, backward_count}
use Rattle.sweep.proofs.Adjoints.{Walks}
use Rattle.sweep.proofs.walking.walk.Given as goal

abbrev pub invariant-loop-i : goal.invariant-loop-i
invariant-loop-i g l =
    let t = g.S.Sheet.tape l.sheet in
    (l.count + sum_by backward_cost (take (l.i - t.controls) t.lines) ≡ backward_count t l.r)
    × Walks g.K.Kind.ops (map g.K.Kind.means l.values) t (unit g.K.Kind.ops (registers t) l.r) l.i (map g.K.Kind.means l.adjoint)
