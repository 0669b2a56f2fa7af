use Rattle.std.proofs.Common.{sym, ◌∙◌}
use Rattle.std.proofs.lemmas.Result.{err_from_is_err_and}
use Rattle.packed.proofs.Looking.{head_none, head_some, line_none, line_some}
use Rattle.packed.proofs.looks.check.Goals as goal

pub returns-in_err-controls-clause-looks : goal.returns-in_err-controls-clause-looks
returns-in_err-controls-clause-looks c =
    let told = err_from_is_err_and c.from_residual.result c.from_residual.ensures.1 in
    rw (told.1, told.2) (head_some c.args.bytes.now _ c.in_err-controls.ensures.looks)

pub loop-j-init : goal.loop-j-init
loop-j-init c =
    let counts = c.in_ok-controls.ensures.counts in
    head_none c.args.bytes.now _ _ counts.0 counts.1 c.in_ok-controls.ensures.looks

pub returns-in_err-check_line-clause-looks : goal.returns-in_err-check_line-clause-looks
returns-in_err-check_line-clause-looks c =
    let told = err_from_is_err_and c.from_residual-in_err-check_line.result c.from_residual-in_err-check_line.ensures.1 in
    rw (told.1, told.2) (sym (c.loop-j.invariant ∙ line_some c.args.bytes.now _ _ _ _ c.loop-j-test.true c.in_err-check_line.ensures))

pub loop-j-preserved : goal.loop-j-preserved
loop-j-preserved c = c.loop-j.invariant ∙ line_none c.args.bytes.now _ _ _ c.loop-j-test.true c.in_ok-check_line.ensures
