-- What a gradient and a bend leave and answer. Assumes nothing.
use Rattle.std.specs.Prelude.{◌≡◌, ℕ, ◌<◌, List, length, drop}
use Rattle.kind.specs.declared.dual.Pair.{Pair}
use Rattle.kind.specs.Dual.{dual, dual_operations}
use Rattle.kind.specs.Kinds.{Operations}
use Rattle.kind.specs.Rows.{dot_product}
use Rattle.tape.specs.Derivatives.{derivatives, second_derivatives}
use Rattle.tape.specs.Rows.{at, unit}
use Rattle.tape.specs.Tapes.{Tape}
use Rattle.tape.specs.Values.{values}
use Rattle.sweep.specs.declared.answers.Gradient.{Gradient}
use Rattle.sweep.specs.Forward.{Filled, given, paired}
use Rattle.sweep.specs.Reverse.{Adjoint, Counted}

-- A row g of one number for each control is the gradient of register r at the controls cs: times any direction it is the formal
-- derivative along it, and its entries are those along the unit directions.
pub record IsGradient {M : Type 0} (o : Operations M) (t : Tape) (cs : List M) (r : ℕ) (g : List M) : Type 0 where
  pub long : length g ≡ t.controls
  pub along : (d : List M) → length d ≡ t.controls → dot_product o g d ≡ at o (derivatives o (values o cs t.lines) d t.lines) r
  pub entries : (i : ℕ) → i < t.controls → at o g i ≡ at o (derivatives o (values o cs t.lines) (unit o t.controls i) t.lines) r

-- A row b is the bend of register r along d: times any direction e it is the second derivative along d and e, whichever comes
-- first, and its entries are those along d and the unit directions.
pub record IsBend {M : Type 0} (o : Operations M) (t : Tape) (cs d : List M) (r : ℕ) (b : List M) : Type 0 where
  pub long : length b ≡ t.controls
  pub along : (e : List M) → length e ≡ t.controls → dot_product o b e ≡ at o (second_derivatives o (values o cs t.lines) d e t.lines) r
  pub turned : (e : List M) → length e ≡ t.controls → dot_product o b e ≡ at o (second_derivatives o (values o cs t.lines) e d t.lines) r
  pub entries : (i : ℕ) → i < t.controls → at o b i ≡ at o (second_derivatives o (values o cs t.lines) d (unit o t.controls i) t.lines) r

module _ {K M : Type 0} (o : Operations M) (means : K → M) (t : Tape) (controls : List K) where
  pub record Graded (r : ℕ) (old new before after : List K) (answer : Gradient K) : Type 0 where
    pub row : Filled o means t (given means t controls) r old new
    pub adjoint : Adjoint o means t (values o (given means t controls) t.lines) r before after
    pub gradient : IsGradient o t (given means t controls) r (given means t after)
    pub value_is : means answer.value ≡ at o (values o (given means t controls) t.lines) r
    pub operations_are : Counted t r answer.operations

  pub record Bent (direction : List K) (r : ℕ) (old new before after : List (Pair K)) (out out' : List K) : Type 0 where
    pub row : Filled (dual_operations o) (dual means) t (paired (given means t controls) (given means t direction)) r old new
    pub adjoint : Adjoint (dual_operations o) (dual means) t (values (dual_operations o) (paired (given means t controls) (given means t direction)) t.lines) r before after
    pub bend : IsBend o t (given means t controls) (given means t direction) r (given means t out')
    pub later : drop t.controls out' ≡ drop t.controls out
