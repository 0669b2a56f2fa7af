use Rattle.std.proofs.Common.{◌≡◌, map, set, ap, ◌∙◌}
use Rattle.std.proofs.lemmas.List.{length-map, map-set}
use Rattle.kind.specs.Rows.{dot_product}
use Rattle.tape.specs.Rows.{at}
use Rattle.tape.proofs.Reading.{read}
use Rattle.sweep.proofs.Products.{dot_give}
use Rattle.sweep.proofs.walking.give.Goals as goal

pub returns : goal.returns
returns g c =
    let o = g.K.Kind.ops in
    let means = g.K.Kind.means in
    let row = c.args.row.now in
    let i = c.args.register in
    let sum_is : means c.sum.result ≡ o.plus (at o (map means row) i) (means c.args.x) =
    c.sum.ensures ∙ ap (λ y. o.plus y (means c.args.x)) (read means row i _ o.zero c.requires c.index-row-r.is) in
    λ m e. ap (λ xs. dot_product o xs m) (map-set means row i _ ∙ ap (set (map means row) i) sum_is)
    ∙ dot_give g.K.Kind.laws (map means row) m i (means c.args.x) (simp length-map c.requires) e
