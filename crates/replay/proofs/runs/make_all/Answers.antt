use Rattle.std.proofs.Common.{take, fold, sym, ap, ◌∙◌, subst, take_all}
use Rattle.session.specs.Books.{feed}
use Rattle.session.specs.Runs.{Keeps}
use Rattle.session.specs.States.{state}
use Rattle.std.proofs.lemmas.List.Sums.{fold_more}
use Rattle.replay.specs.Runs.{Ran}
use Rattle.replay.proofs.runs.make_all.Goals as goal

pub loop-call-preserved : goal.loop-call-preserved
loop-call-preserved g c = λ room b kept.
    let k = g.K.Kind in
    let i = c.loop-call.call-index in
    let calls = c.args.calls.now in
    let so_far = fold (feed k.means room) b (take i calls) in
    let next = fold_more (feed k.means room) b calls i c.call-item.result c.loop-call-test.true in
    subst (λ a. Keeps k.ops k.means room a (state c.make.new.session)) (ap (feed k.means room so_far) c.call-item.is ∙ sym next)
    (c.make.ensures room so_far (c.loop-call.invariant room b kept))

pub returns : goal.returns
returns g c =
    let k = g.K.Kind in
    let all = take_all c.loop-call.call-index c.args.calls.now c.loop-call-test.false in
    subst (λ calls. Ran k.ops k.means calls (state c.args.session.now) (state c.loop-call.session)) all c.loop-call.invariant
