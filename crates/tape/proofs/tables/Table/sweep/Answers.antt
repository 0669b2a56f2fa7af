use Rattle.std.proofs.Common.{◌≡◌, ◌+◌, ◌<◌, length, pos, sym, ap, ◌∙◌, arith, rules}
use Rattle.std.proofs.lemmas.List.{get_or-take}
use Rattle.tape.specs.declared.lines.Line.TheVariants.{Constant}
use Rattle.tape.specs.Rows.{at}
use Rattle.tape.specs.Tables.{table_tape}
use Rattle.tape.specs.Tapes.{line, nth}
use Rattle.tape.specs.Values.{applied}
use Rattle.tape.proofs.Sweeping.{swept_over, swept_next}
use Rattle.tape.proofs.tables.Table.sweep.Goals as goal
use Rattle.tape.proofs.tables.Table.sweep.Goals.{then-self-j, else-self-j}

pub loop-j-preserved : goal.loop-j-preserved
loop-j-preserved g c =
    let kind = g.K.Kind in
    let t = c.args.self.now in
    let j = c.loop-j.j in
    let row = c.loop-j.row in
    let now = c.loop-j.self in
    let so_far = c.loop-j.invariant in
    let in_marks : j < length t.stale = search rules in
    elim c.if-self-j.branch [
      | then-self-j w ↦
          (let in_row : t.controls + j < length row = omega (arith, t.filled) in
          let in_now : j < length now.stale = omega (arith, so_far.swept.long) in
          let read : nth now.lines j ≡ line (table_tape t) j =
          ap (λ lines. nth lines j) so_far.lines ∙ sym (get_or-take t.count t.lines j (Constant (pos 0)) (omega arith)) in
          simp (w.row-is, w.self-is, w.worked-is) record {
            controls = so_far.controls;
            count = so_far.count;
            lines = so_far.lines;
            few = omega arith;
            swept = rw so_far.controls (swept_next kind.ops kind.means (table_tape t) j c.args.row.now row t.stale now.stale c.loop-j.worked in_marks
                w.apply.result in_row in_now w.if-self-j.true
                (λ i h. t.below i (search rules))
                (w.apply.ensures ∙ ap (applied kind.ops (at kind.ops _)) read)
                so_far.swept);
          })
      | else-self-j w ↦
          simp (w.row-is, w.self-is, w.worked-is) record {
            controls = so_far.controls;
            count = so_far.count;
            lines = so_far.lines;
            few = omega arith;
            swept = swept_over kind.ops kind.means (table_tape t) j c.args.row.now row t.stale now.stale c.loop-j.worked in_marks
                w.if-self-j.false so_far.swept;
          }
    ]
