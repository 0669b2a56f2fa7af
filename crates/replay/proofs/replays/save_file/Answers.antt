use Rattle.std.proofs.Common.{sym, subst}
use Rattle.packed.specs.Writing.{Saved}
use Rattle.session.specs.States.{state}
use Rattle.tape.specs.Tables.{table_valid}
use Rattle.replay.proofs.Ending.{saved_file}
use Rattle.replay.proofs.replays.save_file.Goals as goal

pub returns : goal.returns
returns g c =
    let s = state c.args.session.now in
    subst (Saved s.tape c.args.file.now c.save.new.buf) (sym c.unwrap_or.ensures) (saved_file g.K.Kind.ops g.K.Kind.means s (table_valid c.args.session.now.table) _ c.save.new.buf c.save.result _ c.requires c.save.ensures)
