use Rattle.std.proofs.Common.{◌≡◌, length, None, Err, sym, refl, ap, ◌∙◌, subst, rules}
use Rattle.session.specs.Books.{blank, kept}
use Rattle.session.specs.Refusals.{refuse_open}
use Rattle.session.specs.Runs.{Keeps}
use Rattle.session.specs.States.{Opened, state}
use Rattle.session.proofs.Entering.{opened_keeps}
use Rattle.tape.proofs.Answering.{not_declined, why_declined}
use Rattle.replay.proofs.Ending.{run_declined, run_done, run_without_memory}
use Rattle.replay.specs.Replays.{Replayed}
use Rattle.replay.specs.declared.outcomes.ReplayFault.TheVariants.{Declined, Memory}
use Rattle.std.proofs.lemmas.Result.{err_from_is_err_and}
use Rattle.replay.proofs.replays.replay.Goals as goal

pub returns-in_err-opening : goal.returns-in_err-opening
returns-in_err-opening g c =
    let k = g.K.Kind in
    let rest = c.args.rest.now in
    let out = c.args.out.now in
    let long : length c.as_slice.result.now ≡ c.args.room = search rules in
    let gone = err_from_is_err_and c.from_residual-in_err-opening.result c.from_residual-in_err-opening.ensures.1 in
    let is : c.from_residual-in_err-opening.result ≡ Err (Declined c.in_err-opening.field-0.0) = gone.1 ∙ ap Err gone.2 in
    let why = why_declined (refuse_open c.args.n (length rest) (length c.as_slice.result.now)) c.in_err-opening.field-0.0 _ _ c.in_err-opening.ensures in
    subst (Replayed k.ops k.means c.args.n rest c.args.room c.args.calls.now c.args.query.now (g.S.Sheet.tape c.args.sheet.now) out out) (sym is)
    (run_declined k.ops k.means _ _ _ _ _ _ _ (ap (refuse_open c.args.n (length rest)) (sym long) ∙ why) refl)

pub returns-in_err-make_all : goal.returns-in_err-make_all
returns-in_err-make_all g c =
    let k = g.K.Kind in
    let rest = c.args.rest.now in
    let out = c.args.out.now in
    let is : c.from_residual-in_err-make_all.result ≡ Err Memory = search rules in
    subst (Replayed k.ops k.means c.args.n rest c.args.room c.args.calls.now c.args.query.now (g.S.Sheet.tape c.args.sheet.now) out out) (sym is)
    (run_without_memory k.ops k.means _ _ _ _ _ (refuse_open c.args.n (length rest) c.args.room) refl)

pub returns-in_err-report : goal.returns-in_err-report
returns-in_err-report g c =
    let k = g.K.Kind in
    let rest = c.args.rest.now in
    let is : c.from_residual-in_err-report.result ≡ Err Memory = search rules in
    subst (Replayed k.ops k.means c.args.n rest c.args.room c.args.calls.now c.args.query.now (g.S.Sheet.tape c.args.sheet.now) c.args.out.now c.report.new.out) (sym is)
    (run_without_memory k.ops k.means _ _ _ _ _ (refuse_open c.args.n (length rest) c.args.room) c.in_err-report.ensures)

pub returns : goal.returns
returns g c =
    let k = g.K.Kind in
    let rest = c.args.rest.now in
    let calls = c.args.calls.now in
    let room = c.args.room in
    let long : length c.as_slice.result.now ≡ room = search rules in
    let lent : length c.as_mut_slice.result.now ≡ room = search rules in
    let opened = not_declined (refuse_open c.args.n (length rest) (length c.as_slice.result.now)) c.in_ok-opening.opening _ (λ o. o.table.controls ≡ c.args.n) c.in_ok-opening.ensures in
    let free : refuse_open c.args.n (length rest) room ≡ None = ap (refuse_open c.args.n (length rest)) (sym long) ∙ opened.0 in
    let same_opened : refuse_open c.args.n (length rest) (length c.as_mut_slice.result.now) ≡ None = ap (refuse_open c.args.n (length rest)) lent ∙ free in
    let start = opened_keeps k.ops k.means c.args.n rest c.as_mut_slice.result.now (state c.open-session.result) same_opened
    (subst (λ n. Opened n rest c.as_mut_slice.result.now (state c.open-session.result)) opened.1 c.open-session.ensures) in
    let here = subst (λ r. Keeps k.ops k.means r (blank k.means c.args.n rest) (state c.open-session.result)) lent start in
    let ran = c.in_ok-make_all.ensures room (blank k.means c.args.n rest) here in
    run_done k.ops k.means _ _ _ _ _ (refuse_open c.args.n (length rest) room) _ free (c.in_ok-report.ensures room (kept k.means c.args.n rest room calls) ran)
