use Rattle.std.proofs.Common.{Ok, refl, sym, ap, ◌∙◌, subst}
use Rattle.replay.specs.Replies.{Front, ReplyOf}
use Rattle.replay.specs.declared.replies.Reply.TheVariants.{Gradient, Bend}
use Rattle.replay.proofs.replies.Reply.of.Goals as goal

pub returns-in-Ok-Gradient : goal.returns-in-Ok-Gradient
returns-in-Ok-Gradient g c =
    let o = g.K.Kind.ops in
    let m = g.K.Kind.means in
    let front = subst (λ row. Front o m row c.front.result) c.deref.ensures.value c.front.ensures in
    subst (λ a. ReplyOf o m a (Gradient c.in-Ok-Gradient.x c.front.result c.in-Ok-Gradient.operations)) (sym (c.in-Ok-Gradient.is ∙ ap Ok c.in-Ok-Gradient.field-0-is)) (c.front.result, refl, front)

pub returns-in-Ok-Bend : goal.returns-in-Ok-Bend
returns-in-Ok-Bend g c =
    let o = g.K.Kind.ops in
    let m = g.K.Kind.means in
    let front = subst (λ row. Front o m row c.front-in-Ok-Bend.result) c.deref-in-Ok-Bend.ensures.value c.front-in-Ok-Bend.ensures in
    subst (λ a. ReplyOf o m a (Bend c.front-in-Ok-Bend.result)) (sym (c.in-Ok-Bend.is ∙ ap Ok c.in-Ok-Bend.field-0-is)) (c.front-in-Ok-Bend.result, refl, front)
