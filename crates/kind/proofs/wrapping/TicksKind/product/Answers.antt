use Rattle.std.proofs.Common.{◌∙◌}
use Rattle.kind.specs.Reduced.{reduced_times, remainder}
use Rattle.kind.proofs.Words.{tick_word}
use Rattle.kind.proofs.wrapping.TicksKind.product.Goals as goal

pub returns-clause-meaning : goal.returns-clause-meaning
returns-clause-meaning c = tick_word _ ∙ reduced_times (remainder _) _ _
