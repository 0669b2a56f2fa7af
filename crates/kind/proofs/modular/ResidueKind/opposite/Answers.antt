use Rattle.std.proofs.Common.{arith}
use Rattle.kind.specs.Reduced.{reduced_path}
use Rattle.kind.proofs.modular.ResidueKind.opposite.Goals as goal

pub returns : goal.returns
returns c = (reduced_path (omega arith), omega arith)
