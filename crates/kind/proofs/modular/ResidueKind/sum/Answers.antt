use Rattle.std.proofs.Common.{arith}
use Rattle.kind.specs.Reduced.{reduced_plus, remainder}
use Rattle.kind.proofs.modular.ResidueKind.sum.Goals as goal

pub returns : goal.returns
returns c = (reduced_plus (remainder _) _ _, omega arith)
