use Rattle.std.proofs.Common.{◌<◌, [], ◌∷◌, ◌++◌, map, length, take, ap, ◌∙◌, ap₂, arith}
use Rattle.std.proofs.lemmas.List.{length-map, map-set, replicate_more, take_more_set}
use Rattle.sweep.proofs.walking.clear.Goals as goal

pub loop-x-preserved : goal.loop-x-preserved
loop-x-preserved g c =
    let m = g.K.Kind.means in
    let row = c.loop-x.row in
    let i = c.loop-x.x-index in
    let within : i < length (map m row) = simp length-map (omega arith) in
    ap (take _) (map-set m row i _) ∙ take_more_set (map m row) i _ within
    ∙ ap₂ (λ r z. r ++ (z ∷ [])) c.loop-x.invariant c.zero.ensures
    ∙ replicate_more i g.K.Kind.ops.zero
