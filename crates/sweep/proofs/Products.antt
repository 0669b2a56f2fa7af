-- Sums of products of two rows. Assumes nothing.
use Rattle.std.proofs.Common.{◌≡◌, ℕ, zero, suc, ◌<◌, List, [], ◌∷◌, ◌++◌, length, set, replicate, sym, refl, ap, ◌∙◌, ap₂, arith}
use lib.ListN.{length-replicate}
use Rattle.std.proofs.lemmas.List.{get_or-replicate}
use Rattle.kind.specs.Algebra.{multiplied}
use Rattle.kind.specs.Kinds.{Operations, Laws}
use Rattle.kind.specs.Rows.{dot_product}
use Rattle.tape.specs.Rows.{at, unit}

module _ {M : Type 0} {o : Operations M} (l : Laws o) where
  pub dot_comm : (xs ys : List M) → dot_product o xs ys ≡ dot_product o ys xs
  dot_comm [] [] = refl
  dot_comm [] (y ∷ ys) = refl
  dot_comm (x ∷ xs) [] = refl
  dot_comm (x ∷ xs) (y ∷ ys) = ap₂ o.plus (l.times_comm x y) (dot_comm xs ys)

  give_first : (a b x d : M) → o.plus (o.times (o.plus a x) b) d ≡ o.plus (o.plus (o.times a b) d) (o.times x b)
  give_first a b x d = simp multiplied

  -- an entry of the first row that grows by x
  pub dot_give : (xs ys : List M) (i : ℕ) (x : M) → i < length xs → length ys ≡ length xs
      → dot_product o (set xs i (o.plus (at o xs i) x)) ys ≡ o.plus (dot_product o xs ys) (o.times x (at o ys i))
  dot_give [] ys i x h e = elim h [ ]
  dot_give (a ∷ xs) [] i x h e = absurd (omega arith)
  dot_give (a ∷ xs) (b ∷ ys) zero x h e = give_first a b x (dot_product o xs ys)
  dot_give (a ∷ xs) (b ∷ ys) (suc i) x h e =
      ap (o.plus (o.times a b)) (dot_give xs ys i x (omega arith) (omega arith)) ∙ sym (l.plus_assoc _ _ _)

  -- and one of the second
  pub dot_move : (xs ys : List M) (i : ℕ) (y : M) → i < length xs → length ys ≡ length xs
      → dot_product o xs (set ys i (o.plus (at o ys i) y)) ≡ o.plus (dot_product o xs ys) (o.times (at o xs i) y)
  dot_move xs ys i y h e =
      dot_comm xs _ ∙ dot_give ys xs i y (omega arith) (sym e) ∙ ap₂ o.plus (dot_comm ys xs) (l.times_comm y (at o xs i))

  pub dot_zeros : (n : ℕ) (ys : List M) → dot_product o (replicate n o.zero) ys ≡ o.zero
  dot_zeros zero ys = refl
  dot_zeros (suc n) [] = refl
  dot_zeros (suc n) (y ∷ ys) = ap₂ o.plus (l.zero_times y) (dot_zeros n ys) ∙ l.zero_plus o.zero

  pub dot_unit : (ys : List M) (n i : ℕ) → i < n → length ys ≡ n → dot_product o (unit o n i) ys ≡ at o ys i
  dot_unit ys n i h e =
      let zeros = replicate n o.zero in
      let long : i < length zeros = rw (length-replicate n o.zero) h in
      let one_is : o.one ≡ o.plus (at o zeros i) o.one =
      sym (ap (λ z. o.plus z o.one) (get_or-replicate n i o.zero o.zero h) ∙ l.zero_plus o.one) in
      ap (λ x. dot_product o (set zeros i x) ys) one_is
      ∙ dot_give zeros ys i o.one long (e ∙ sym (length-replicate n o.zero))
      ∙ ap₂ o.plus (dot_zeros n ys) (l.one_times (at o ys i))
      ∙ l.zero_plus (at o ys i)

  pub dot_append : (xs ys us vs : List M) → length xs ≡ length ys → dot_product o (xs ++ us) (ys ++ vs) ≡ o.plus (dot_product o xs ys) (dot_product o us vs)
  dot_append [] [] us vs e = sym (l.zero_plus (dot_product o us vs))
  dot_append [] (y ∷ ys) us vs e = absurd (omega arith)
  dot_append (x ∷ xs) [] us vs e = absurd (omega arith)
  dot_append (x ∷ xs) (y ∷ ys) us vs e = ap (o.plus (o.times x y)) (dot_append xs ys us vs (omega arith)) ∙ sym (l.plus_assoc _ _ _)
