use Rattle.std.proofs.Common.{◌≡◌, take}
use Rattle.tape.specs.Marks.{Spread}
use Rattle.tape.proofs.tables.Table.spread.Given as goal

-- the first j lines are spread to
abbrev pub invariant-loop-j : goal.invariant-loop-j
invariant-loop-j l =
    let t = l.initial.self in record {
      controls : l.self.controls ≡ t.controls;
      count : l.self.count ≡ t.count;
      lines : l.self.lines ≡ t.lines;
      marks : Spread (record { controls = t.controls; lines = take l.j t.lines }) l.q t.stale l.self.stale;
    }
