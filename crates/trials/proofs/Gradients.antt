-- Gradients and bends of small tapes, in every kind. Assumes nothing.
use Rattle.std.proofs.Common.{◌≡◌, ℕ, List, [], ◌∷◌, length, refl, ◌∙◌}
use Rattle.kind.specs.Algebra.{multiplied}
use Rattle.kind.specs.Kinds.{Operations, Laws}
use Rattle.kind.specs.Rows.{dot_product}
use Rattle.tape.specs.Derivatives.{derivatives, second_derivatives}
use Rattle.tape.specs.Rows.{at, unit}
use Rattle.tape.specs.Tapes.{Tape}
use Rattle.tape.specs.Values.{values}
use Rattle.sweep.specs.Queries.{IsBend, IsGradient}
use Rattle.sweep.proofs.Gradients.{entry_by_unit, unit_length}
use Rattle.packed.specs.Vectors.{two_products}
use Rattle.trials.specs.Tapes.{less_itself, square}
use Rattle.trials.proofs.Small.{one_number, three_numbers}

module _ {M : Type 0} {o : Operations M} (l : Laws o) where
  -- the entries are products with the unit rows
  gradient_from : (t : Tape) (cs : List M) (r : ℕ) (g : List M) → length g ≡ t.controls
      → ((d : List M) → length d ≡ t.controls → dot_product o g d ≡ at o (derivatives o (values o cs t.lines) d t.lines) r) → IsGradient o t cs r g
  gradient_from t cs r g long along = record {
    long = long;
    along = along;
    entries = λ i h. entry_by_unit l t.controls i g h long ∙ along (unit o t.controls i) (unit_length o t.controls i);
  }

  bend_from : (t : Tape) (cs d : List M) (r : ℕ) (b : List M) → length b ≡ t.controls
      → ((e : List M) → length e ≡ t.controls → dot_product o b e ≡ at o (second_derivatives o (values o cs t.lines) d e t.lines) r)
      → ((e : List M) → length e ≡ t.controls → dot_product o b e ≡ at o (second_derivatives o (values o cs t.lines) e d t.lines) r) → IsBend o t cs d r b
  bend_from t cs d r b long along turned = record {
    long = long;
    along = along;
    turned = turned;
    entries = λ i h. entry_by_unit l t.controls i b h long ∙ along (unit o t.controls i) (unit_length o t.controls i);
  }

  pub square_gradient : (a : M) → IsGradient o square (a ∷ []) 1 (o.plus a a ∷ [])
  square_gradient a = gradient_from square _ 1 _ refl (one_number _ (λ x. simp multiplied))

  pub less_itself_gradient : (a : M) → IsGradient o less_itself (a ∷ []) 1 (o.plus o.one (o.opposite o.one) ∷ [])
  less_itself_gradient a = gradient_from less_itself _ 1 _ refl (one_number _ (λ x. simp multiplied))

  open o use {zero, one, plus as ◌⊕◌, times as ◌⊗◌}

  infixl 6 ◌⊕◌
  infixl 7 ◌⊗◌
  -- in plain terms: `simp` does not look up a register

  slopes : (a b c x y z : M) → b ⊗ c ⊗ x ⊕ (a ⊗ c ⊗ y ⊕ (a ⊗ b ⊗ z ⊕ zero)) ≡ a ⊗ b ⊗ z ⊕ c ⊗ (a ⊗ y ⊕ b ⊗ x)
  slopes a b c x y z = simp multiplied

  bends : (a b c x y z : M) → (b ⊕ c) ⊗ x ⊕ ((a ⊕ c) ⊗ y ⊕ ((a ⊕ b) ⊗ z ⊕ zero))
      ≡ a ⊗ b ⊗ zero ⊕ (a ⊗ one ⊕ b ⊗ one) ⊗ z ⊕ (a ⊗ y ⊕ b ⊗ x) ⊗ one ⊕ c ⊗ (a ⊗ zero ⊕ one ⊗ y ⊕ x ⊗ one ⊕ b ⊗ zero)
  bends a b c x y z = simp multiplied

  turned_bends : (a b c x y z : M) → (b ⊕ c) ⊗ x ⊕ ((a ⊕ c) ⊗ y ⊕ ((a ⊕ b) ⊗ z ⊕ zero))
      ≡ a ⊗ b ⊗ zero ⊕ (a ⊗ y ⊕ b ⊗ x) ⊗ one ⊕ (a ⊗ one ⊕ b ⊗ one) ⊗ z ⊕ c ⊗ (a ⊗ zero ⊕ x ⊗ one ⊕ one ⊗ y ⊕ b ⊗ zero)
  turned_bends a b c x y z = simp multiplied

  pub product_gradient : (a b c : M) → IsGradient o two_products (a ∷ b ∷ c ∷ []) 4 ((b ⊗ c) ∷ (a ⊗ c) ∷ (a ⊗ b) ∷ [])
  product_gradient a b c = gradient_from two_products _ 4 _ refl (three_numbers _ (slopes a b c))

  pub product_bend : (a b c : M) → IsBend o two_products (a ∷ b ∷ c ∷ []) (one ∷ one ∷ one ∷ []) 4 ((b ⊕ c) ∷ (a ⊕ c) ∷ (a ⊕ b) ∷ [])
  product_bend a b c = bend_from two_products _ _ 4 _ refl (three_numbers _ (bends a b c)) (three_numbers _ (turned_bends a b c))
