use Rattle.std.proofs.Common.{◌≡◌, List, map, length, sym, ◌∙◌}
use Rattle.std.proofs.lemmas.List.{length-map}
use Rattle.kind.specs.Rows.{dot_product}
use Rattle.tape.specs.Rows.{at}
use Rattle.sweep.proofs.Adjoints.{back_constant, back_subtract, back_multiply, back_opposite}
use Rattle.sweep.proofs.walking.give_back.Goals as goal

-- a row as long as the one before a call is as long as the one after it
still : {X Y : Type 0} (f : X → Y) (m : List Y) (old new : List X) → length m ≡ length (map f old) → length new ≡ length old → length m ≡ length (map f new)
still f m old new e kept = e ∙ length-map old f ∙ sym kept ∙ sym (length-map new f)

pub returns-in-Constant-clause-gains : goal.returns-in-Constant-clause-gains
returns-in-Constant-clause-gains g c = λ m e. rw c.in-Constant.is (back_constant g.K.Kind.laws _ (g.K.Kind.means c.args.q))

pub returns-in-Subtract-clause-gains : goal.returns-in-Subtract-clause-gains
returns-in-Subtract-clause-gains g c = λ m e.
    let means = g.K.Kind.means in
    let first = c.give-in-Subtract.ensures m e in
    let second = c.give-in-Subtract-2.ensures m (still means m _ _ e c.give-in-Subtract.auto.row) in
    let sum = back_subtract g.K.Kind.laws (dot_product g.K.Kind.ops (map means c.args.adjoint.now) m) (means c.args.q) (at g.K.Kind.ops m c.in-Subtract.a) (at g.K.Kind.ops m c.in-Subtract.b) in
    rw c.in-Subtract.is (cc)

pub returns-in-Multiply-clause-gains : goal.returns-in-Multiply-clause-gains
returns-in-Multiply-clause-gains g c = λ m e.
    let o = g.K.Kind.ops in
    let means = g.K.Kind.means in
    let vs = map means c.args.values.now in
    let first = c.give-in-Multiply.ensures m e in
    let second = c.give-in-Multiply-2.ensures m (still means m _ _ e c.give-in-Multiply.auto.row) in
    let sum = back_multiply g.K.Kind.laws (dot_product o (map means c.args.adjoint.now) m) (means c.args.q) (at o vs c.in-Multiply.a) (at o vs c.in-Multiply.b) (at o m c.in-Multiply.a) (at o m c.in-Multiply.b) in
    rw c.in-Multiply.is (cc)

pub returns-in-Opposite-clause-gains : goal.returns-in-Opposite-clause-gains
returns-in-Opposite-clause-gains g c = λ m e.
    let means = g.K.Kind.means in
    let first = c.give-in-Opposite.ensures m e in
    let sum = back_opposite g.K.Kind.laws (dot_product g.K.Kind.ops (map means c.args.adjoint.now) m) (means c.args.q) (at g.K.Kind.ops m c.in-Opposite.a) in
    rw c.in-Opposite.is (cc)
