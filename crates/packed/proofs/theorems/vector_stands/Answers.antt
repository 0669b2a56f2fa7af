use Rattle.packed.proofs.Vectors.{two_products_packed}
use Rattle.packed.proofs.theorems.vector_stands.Goals as goal

pub returns : goal.returns
returns c = two_products_packed
