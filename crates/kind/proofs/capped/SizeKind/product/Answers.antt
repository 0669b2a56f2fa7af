use Rattle.std.proofs.Common.{rules}
use Rattle.kind.proofs.Words.{size_times}
use Rattle.kind.proofs.capped.SizeKind.product.Goals as goal

pub returns-clause-meaning : goal.returns-clause-meaning
returns-clause-meaning c = size_times _ _ _ (search rules)
