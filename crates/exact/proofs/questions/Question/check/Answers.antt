use Rattle.std.proofs.Common.{◌≡◌, false, true, arith}
use Rattle.std.proofs.lemmas.Bool.Decides.{nat_tests}
use Rattle.tape.proofs.Answering.{accepted, refused}
use Rattle.exact.specs.Exact.{lengths, work}
use Rattle.exact.specs.Refusals.{too_short}
use Rattle.exact.specs.Wholes.{question}
use Rattle.exact.proofs.Finding.{no_cause, short_row, unknown_register}
use Rattle.exact.proofs.questions.Question.check.Goals as goal

pub returns-then-r-registers-clause-refusal : goal.returns-then-r-registers-clause-refusal
returns-then-r-registers-clause-refusal g c =
    refused _ _ _ _ (unknown_register (g.S.Sheet.tape c.args.self.now.sheet.now) _ c.args.tests.now c.loop-r.r-index (omega arith)
    (λ i h. let b = c.loop-r.invariant i h in omega arith) (omega arith)) tt

pub returns-then-short-clause-refusal : goal.returns-then-short-clause-refusal
returns-then-short-clause-refusal g c =
    let t = g.S.Sheet.tape c.args.self.now.sheet.now in
    let rows = lengths (question t c.args.self.now.controls.now c.args.self.now.direction.now) (work c.args.pairs.now c.args.sizes.now) in
    let short : too_short t rows ≡ true = grind (arith, nat_tests) in
    refused _ _ _ _ (short_row t rows c.args.tests.now (λ i h. let b = c.loop-r.invariant i (omega arith) in omega arith) short) tt

pub returns-clause-refusal : goal.returns-clause-refusal
returns-clause-refusal g c =
    let t = g.S.Sheet.tape c.args.self.now.sheet.now in
    let rows = lengths (question t c.args.self.now.controls.now c.args.self.now.direction.now) (work c.args.pairs.now c.args.sizes.now) in
    let room : too_short t rows ≡ false = grind (arith, nat_tests) in
    accepted _ _ _ _ (no_cause t rows c.args.tests.now (λ i h. let b = c.loop-r.invariant i (omega arith) in omega arith) room) tt
