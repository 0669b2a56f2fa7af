use Rattle.std.proofs.Common.{◌≡◌, ◌≤◌, length, None, arith}
use Rattle.std.proofs.lemmas.Bool.Decides.{nat_tests}
use Rattle.tape.specs.Tapes.{registers}
use Rattle.tape.proofs.Answering.{accepted}
use Rattle.sweep.specs.Refusals.{refuse_backward}
use Rattle.sweep.proofs.Counting.{counted}
use Rattle.sweep.proofs.Gradients.{adjoint_is}
use Rattle.sweep.proofs.walking.backward.Goals as goal

pub returns : goal.returns
returns g c =
    let t = g.S.Sheet.tape c.args.sheet.now in
    let before = c.args.adjoint.now in
    let r = c.args.r in
    let free : refuse_backward t (length c.args.values.now) (length before) r ≡ None = grind (arith, nat_tests) in
    let room : registers t ≤ length before = grind (arith, nat_tests) in
    accepted _ _ _ _ free (record {
      adjoint = adjoint_is g.K.Kind.laws g.K.Kind.means t r c.in_ok-check_query.ensures.known before c.walk.new.adjoint _ c.registers-registers.ensures (omega arith)
          c.walk.auto.adjoint _ c.walk.ensures.transposes;
      operations_are = counted t r _ c.walk.ensures.count;
    })
