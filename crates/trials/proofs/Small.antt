-- A row of one or three numbers, number by number. Assumes nothing.
use Rattle.std.proofs.Common.{◌≡◌, List, [], ◌∷◌, length, arith}

pub one_number : {M : Type 0} (P : List M → Type 0) → ((x : M) → P (x ∷ [])) → (row : List M) → length row ≡ 1 → P row
one_number P holds [] e = absurd (omega arith)
one_number P holds (x ∷ []) e = holds x
one_number P holds (x ∷ (y ∷ rest)) e = absurd (omega arith)

pub three_numbers : {M : Type 0} (P : List M → Type 0) → ((x y z : M) → P (x ∷ y ∷ z ∷ [])) → (row : List M) → length row ≡ 3 → P row
three_numbers P holds [] e = absurd (omega arith)
three_numbers P holds (x ∷ []) e = absurd (omega arith)
three_numbers P holds (x ∷ (y ∷ [])) e = absurd (omega arith)
three_numbers P holds (x ∷ (y ∷ (z ∷ []))) e = holds x y z
three_numbers P holds (x ∷ (y ∷ (z ∷ (w ∷ rest)))) e = absurd (omega arith)
