-- A dot product that grows at its end. Assumes nothing.
use Rattle.std.proofs.Common.{◌≡◌, ℕ, zero, suc, ◌+◌, ◌<◌, ◌≤◌, min, List, [], ◌∷◌, ◌++◌, map, length, get_or, take, sym, refl, ap, ◌∙◌, arith, length-take}
use Rattle.std.proofs.lemmas.List.{take_more, take-map, map-append, length-map}
use Rattle.kind.specs.Algebra.{multiplied}
use Rattle.kind.specs.Kinds.{Operations, Laws}
use Rattle.kind.specs.Rows.{dot_product}

module _ {M : Type 0} {o : Operations M} (l : Laws o) where
  pub dot_push : (xs ys : List M) (x y : M) → length xs ≡ length ys → dot_product o (xs ++ (x ∷ [])) (ys ++ (y ∷ [])) ≡ o.plus (dot_product o xs ys) (o.times x y)
  dot_push [] [] x y e = simp multiplied
  dot_push [] (b ∷ ys) x y e = absurd (omega (arith, e))
  dot_push (a ∷ xs) [] x y e = absurd (omega (arith, e))
  dot_push (a ∷ xs) (b ∷ ys) x y e =
      let e' : length xs ≡ length ys = omega (arith, e) in
      ap (o.plus (o.times a b)) (dot_push xs ys x y e') ∙ simp multiplied

  -- places past the end of the shorter row add nothing
  pub dot_over : (i : ℕ) (xs ys : List M) → min (length xs) (length ys) ≤ i → dot_product o (take i xs) (take i ys) ≡ dot_product o xs ys
  dot_over zero [] ys over = refl
  dot_over zero (x ∷ xs) [] over = refl
  dot_over zero (x ∷ xs) (y ∷ ys) over = absurd (omega (arith, over))
  dot_over (suc i) [] ys over = refl
  dot_over (suc i) (x ∷ xs) [] over = refl
  dot_over (suc i) (x ∷ xs) (y ∷ ys) over =
      let over' : min (length xs) (length ys) ≤ i = omega (arith, over) in
      ap (o.plus (o.times x y)) (dot_over i xs ys over')

  -- one place more of two rows whose elements mean their numbers
  module _ {K : Type 0} (means : K → M) where
    front : (xs : List K) (i : ℕ) (x : K) → i < length xs → x ≡ get_or xs i x → map means (take (i + 1) xs) ≡ map means (take i xs) ++ (means x ∷ [])
    front xs i x within read = ap (map means) (take_more xs i x within ∙ ap (λ y. take i xs ++ (y ∷ [])) (sym read)) ∙ map-append means (take i xs) (x ∷ [])

    pub dot_more : (xs ys : List K) (i : ℕ) (x y : K) → i < length xs → i < length ys → x ≡ get_or xs i x → y ≡ get_or ys i y → dot_product o (map means (take (i + 1) xs)) (map means (take (i + 1) ys)) ≡ o.plus (dot_product o (map means (take i xs)) (map means (take i ys))) (o.times (means x) (means y))
    dot_more xs ys i x y within_x within_y at_x at_y =
        let level : length (map means (take i xs)) ≡ length (map means (take i ys)) = simp (length-map, length-take) (omega arith) in
        rw (front xs i x within_x at_x, front ys i y within_y at_y) (dot_push _ _ (means x) (means y) level)

    pub dot_all : (xs ys : List K) (i : ℕ) → min (length xs) (length ys) ≤ i → dot_product o (map means (take i xs)) (map means (take i ys)) ≡ dot_product o (map means xs) (map means ys)
    dot_all xs ys i over =
        let over' : min (length (map means xs)) (length (map means ys)) ≤ i = simp length-map over in
        simp take-map at (dot_over i (map means xs) (map means ys) over')
