use Rattle.std.proofs.Common.{◌≡◌, ◌-◌, map, length, take}
use Rattle.tape.specs.Values.{values}
use Rattle.sweep.proofs.filling.sweep_lines.Given as goal

-- what is filled agrees with the values, which the row at the start says
abbrev pub invariant-loop-i : goal.invariant-loop-i
invariant-loop-i g l =
    let t = g.S.Sheet.tape l.sheet in
    let old = map g.K.Kind.means l.initial.row in
    take l.i (map g.K.Kind.means l.row) ≡ take l.i (values g.K.Kind.ops (take t.controls old) (take (length old - t.controls) t.lines))
