use Rattle.session.specs.States.{state}
use Rattle.tape.specs.Tables.{table_valid}
use Rattle.replay.proofs.Sessions.{gradient_enters}
use Rattle.replay.proofs.runs.make_gradient.Goals as goal

pub returns : goal.returns
returns g c =
    let k = g.K.Kind in
    gradient_enters k.ops k.means (state c.args.session.now) (state c.gradient.new.self) (table_valid c.args.session.now.table) c.args.register _ _ c.gradient.result c.gradient.ensures
