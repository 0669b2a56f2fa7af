use Rattle.std.proofs.Common.{◌≤◌, length, arith}
use Rattle.std.proofs.lemmas.Bool.Decides.{nat_tests}
use Rattle.tape.proofs.Answering.{not_declined}
use Rattle.exact.specs.Exact.{work}
use Rattle.exact.specs.Wholes.{question}
use Rattle.exact.proofs.Telling.{tell_exact}
use Rattle.exact.proofs.wholes.exact.Goals as goal

pub returns : goal.returns
returns g c =
    let t = g.S.Sheet.tape c.args.sheet.now in
    let q = question t c.args.controls.now c.args.direction.now in
    let old = work c.args.pairs.now c.args.sizes.now in
    let new = work c.work.new.pairs c.work.new.sizes in
    let told = not_declined _ _ _ _ c.in_ok-work.ensures.refusal in
    let given : t.controls ≤ length c.args.controls.now = grind (arith, nat_tests) in
    let directed : t.controls ≤ length c.args.direction.now = grind (arith, nat_tests) in
    tell_exact q old new (g.S.Sheet.keeps c.args.sheet.now) given directed told.1 c.args.r (c.in_ok-work.ensures.admitted.known 0 (omega arith)) told.0 c.read.result c.read.ensures
