use Rattle.std.proofs.Common.{◌≡◌, ◌≤◌}
use Rattle.tape.specs.Marks.{Swept}
use Rattle.tape.specs.Tables.{table_tape}
use Rattle.tape.proofs.tables.Table.sweep.Given as goal

-- the first j lines are swept
abbrev pub invariant-loop-j : goal.invariant-loop-j
invariant-loop-j g l =
    let k = g.K.Kind in
    let t = l.initial.self in record {
      controls : l.self.controls ≡ t.controls;
      count : l.self.count ≡ t.count;
      lines : l.self.lines ≡ t.lines;
      few : l.worked ≤ l.j;
      swept : Swept k.ops k.means (table_tape t) l.j l.initial.row t.stale l.row l.self.stale l.worked;
    }
