use Rattle.tape.specs.Tables.{table_valid}
use Rattle.session.specs.States.{state}
use Rattle.session.proofs.Entering.{for, set_enters, add_enters, change_enters, drop_enters, ask_enters}
use Rattle.replay.proofs.runs.make.Goals as goal

pub returns-in-Set : goal.returns-in-Set
returns-in-Set g c =
    let k = g.K.Kind in
    let before = state c.args.session.now in
    let after = state c.set.new.self in
    for k.ops k.means before after c.in-Set.is (set_enters k.ops k.means before after c.in-Set.control c.in-Set.x c.set.result c.set.ensures)

pub returns-in-Add : goal.returns-in-Add
returns-in-Add g c =
    let k = g.K.Kind in
    let t = c.args.session.now.table in
    let before = state c.args.session.now in
    let after = state c.add.new.self in
    for k.ops k.means before after c.in-Add.is (add_enters k.ops k.means before after (table_valid t) t.marked c.in-Add.line c.add.result c.add.ensures)

pub returns-in-Change : goal.returns-in-Change
returns-in-Change g c =
    let k = g.K.Kind in
    let t = c.args.session.now.table in
    let before = state c.args.session.now in
    let after = state c.change.new.self in
    for k.ops k.means before after c.in-Change.is (change_enters k.ops k.means before after (table_valid t) t.marked c.in-Change.register c.in-Change.line c.change.result c.change.ensures)

pub returns-in-Drop : goal.returns-in-Drop
returns-in-Drop g c =
    let k = g.K.Kind in
    let before = state c.args.session.now in
    let after = state c.drop_last.new.self in
    for k.ops k.means before after c.in-Drop.is (drop_enters k.ops k.means before after c.drop_last.result c.drop_last.ensures)

pub returns-in-Value : goal.returns-in-Value
returns-in-Value g c =
    let k = g.K.Kind in
    let t = c.args.session.now.table in
    let before = state c.args.session.now in
    let after = state c.value.new.self in
    for k.ops k.means before after c.in-Value.is (ask_enters k.ops k.means before after (table_valid t) c.in-Value.register c.value.result c.value.ensures)
