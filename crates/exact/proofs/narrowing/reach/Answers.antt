use Rattle.std.proofs.Common.{◌≡◌, ◌/◌, ◌<◌, min, nat_abs, ◌∙◌, ap₂, arith, w64, SFits, rules}
use Rattle.std.proofs.lemmas.Int.{ints}
use Rattle.exact.specs.Narrowing.{slack}
use Rattle.exact.proofs.TestLaws.{one_part, reached, slack_is}
use Rattle.exact.proofs.narrowing.reach.Goals as goal
use Rattle.exact.proofs.narrowing.reach.Goals.{then-whole-gt0, else-whole-gt0}

pub returns : goal.returns
returns c =
    let v = c.args.whole.value in
    let t = c.args.whole.slope in
    let value_fits : SFits w64 v = search rules in
    let slope_fits : SFits w64 t = search rules in
    let over : c.if-whole-gt0.slack ≡ slack v = elim c.if-whole-gt0.branch [
      | then-whole-gt0 w ↦ omega (arith, ints, slack_is v, one_part v, w.slack-is, w.unsigned_abs.ensures.value, w.if-whole-gt0.true)
      | else-whole-gt0 w ↦ omega (arith, ints, slack_is v, one_part v, w.slack-is, w.unsigned_abs-slack.ensures.value, w.if-whole-gt0.false)
    ] in
    let by : c.unsigned_abs-2.result ≡ nat_abs t = omega (arith, ints, c.unsigned_abs-2.ensures.value) in
    let some : 0 < nat_abs t = omega (arith, ints, c.requires) in
    reached v t c.min.result some (c.min.ensures ∙ ap₂ (λ m d. min (m / d) 1000000) over by)
