use Rattle.std.proofs.Common.{ℕ, ◌<◌, get_or}
use Rattle.exact.proofs.questions.Question.check.Given as goal

abbrev pub invariant-loop-r : goal.invariant-loop-r
invariant-loop-r g l = (k : ℕ) → k < l.r-index → get_or l.tests k 0 < l.registers
