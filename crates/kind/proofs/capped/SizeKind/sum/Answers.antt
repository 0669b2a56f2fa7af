use Rattle.std.proofs.Common.{rules}
use Rattle.kind.proofs.Words.{size_plus}
use Rattle.kind.proofs.capped.SizeKind.sum.Goals as goal

pub returns-clause-meaning : goal.returns-clause-meaning
returns-clause-meaning c = size_plus _ _ _ (search rules)
