-- The sum of the products of two rows. Assumes nothing.
use Rattle.std.specs.Prelude.{List, [], ◌∷◌}
use Rattle.kind.specs.Kinds.{Operations}

abbrev pub dot_product : {M : Type 0} → Operations M → List M → List M → M
dot_product o [] ys = o.zero
dot_product o (x ∷ xs) [] = o.zero
dot_product o (x ∷ xs) (y ∷ ys) = o.plus (o.times x y) (dot_product o xs ys)
