use Rattle.std.proofs.Common.{arith}
use Rattle.sweep.proofs.Sweeping.{swept_front}
use Rattle.sweep.proofs.filling.evaluate.Goals as goal

pub returns-clause-swept : goal.returns-clause-swept
returns-clause-swept g c =
    swept_front g.K.Kind.ops g.K.Kind.means (g.S.Sheet.tape c.args.sheet.now) c.args.row.now c.sweep_lines.new.row c.min-end.result (omega arith) c.sweep_lines.auto.row c.sweep_lines.ensures
