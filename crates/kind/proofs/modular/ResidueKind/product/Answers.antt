use Rattle.std.proofs.Common.{arith}
use Rattle.kind.specs.Reduced.{reduced_times, remainder}
use Rattle.kind.proofs.modular.ResidueKind.product.Goals as goal

pub returns : goal.returns
returns c = (reduced_times (remainder _) _ _, omega arith)
