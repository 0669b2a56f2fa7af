use Rattle.std.proofs.Common.{◌≡◌, map, take}
use Rattle.kind.specs.Dual.{dual}
use Rattle.exact.specs.Wholes.{images, question}
use Rattle.exact.proofs.questions.Question.fill.Given as goal

abbrev pub invariant-loop-i : goal.invariant-loop-i
invariant-loop-i g l = take l.i (map (dual g.K.Kind.means) l.pair-items) ≡ take l.i (images (question (g.S.Sheet.tape l.self.sheet.now) l.self.controls.now l.self.direction.now) g.K.Kind.ops)
