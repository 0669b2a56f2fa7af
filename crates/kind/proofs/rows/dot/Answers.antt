use Rattle.std.proofs.Common.{min, length, ◌≤◌, arith}
use Rattle.std.proofs.lemmas.Grind.{common_steps}
use Rattle.std.proofs.lemmas.List.{length_push}
use Rattle.std.proofs.lemmas.Slice.Zip.{zip_turn, zip_end}
use Rattle.kind.proofs.DotProducts.{dot_more, dot_all}
use Rattle.kind.proofs.rows.dot.Goals as goal

pub loop-x-preserved : goal.loop-x-preserved
loop-x-preserved g c =
    let k = g.K.Kind in
    let turn = zip_turn c.args.xs.now c.args.ys.now c.loop-x.yielded c.into_iter-x-iterator.result c.loop-x.x-iterator c.next.new.self c.next.result (grind (arith, common_steps)) (grind (arith, common_steps)) c.loop-x.yielded_by (c.in-Some.x, c.in-Some.y) c.in-Some.is c.next.ensures.steps in
    let more = dot_more k.laws k.means c.args.xs.now c.args.ys.now (length c.loop-x.yielded) _ _ turn.0 turn.1 (turn.2 _) (turn.3 _) in
    simp (length_push, c.sum-sum.ensures, c.product.ensures, c.loop-x.invariant, more)

pub returns : goal.returns
returns g c =
    let k = g.K.Kind in
    let end = zip_end c.args.xs.now c.args.ys.now c.loop-x.yielded c.into_iter-x-iterator.result c.loop-x.x-iterator c.next.new.self c.next.result (grind (arith, common_steps)) (grind (arith, common_steps)) c.loop-x.yielded_by c.in-None.is c.next.ensures.steps in
    let over : min (length c.args.xs.now) (length c.args.ys.now) ≤ length c.loop-x.yielded = omega (arith, end) in
    simp (dot_all k.laws k.means _ _ _ over) at c.loop-x.invariant
