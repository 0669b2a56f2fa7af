-- The worked file, by computation. Assumes nothing.
use Rattle.std.proofs.Common.{refl, lit<}
use Rattle.packed.specs.Bits.{bits, spread}
use Rattle.packed.specs.Vectors.{TwoProductsPacked, two_products_file}
use Rattle.packed.proofs.FieldLaws.{byte_at}

pub two_products_packed : TwoProductsPacked
unfolding bits spread
two_products_packed = (λ i. byte_at two_products_file i (search (lit<)), lit< tt, refl)
