use Rattle.std.proofs.Common.{◌≡◌, ◌++◌, take, drop, replicate, sym, subst, arith}
use Rattle.std.proofs.lemmas.Grind.{common_steps}
use Rattle.replay.specs.Replies.{Front}
use Rattle.replay.proofs.Telling.{front_is}
use Rattle.replay.proofs.rows.front.Goals as goal

pub returns : goal.returns
returns g c =
    let o = g.K.Kind.ops in
    let m = g.K.Kind.means in
    let row = c.args.row.now in
    let z = c.zero-entries.result in
    let copied : c.copy_from_slice.new.self ≡ take c.min-both.result row = grind (arith, common_steps) in
    subst (λ n. Front o m row (n ++ drop c.min-both.result (replicate 128 z))) (sym copied)
    (front_is o m row z c.min-both.result c.zero-entries.ensures c.min-both.ensures)
