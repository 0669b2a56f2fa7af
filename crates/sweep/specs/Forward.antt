-- What a sweep up the lines leaves and answers. Assumes nothing.
use Rattle.std.specs.Prelude.{◌≡◌, ℕ, ◌+◌, ◌-◌, List, [], ◌∷◌, map, length, take, drop}
use Rattle.kind.specs.declared.dual.Pair.{Pair}
use Rattle.kind.specs.Dual.{Dual, dual, dual_operations}
use Rattle.kind.specs.Kinds.{Operations}
use Rattle.tape.specs.Derivatives.{derivatives}
use Rattle.tape.specs.Rows.{at}
use Rattle.tape.specs.Tapes.{Tape}
use Rattle.tape.specs.Values.{values}

-- what the first entries of a row mean, one for each control
abbrev pub given : {K M : Type 0} → (K → M) → Tape → List K → List M
given means t row = map means (take t.controls row)

-- control by control, its number and its entry in a direction
abbrev pub paired : {M : Type 0} → List M → List M → List (Dual M)
paired [] ds = []
paired (c ∷ cs) [] = []
paired (c ∷ cs) (d ∷ ds) = record { value = c; tangent = d } ∷ paired cs ds

-- a row of some registers, whose controls stood there before
abbrev pub Swept : {M : Type 0} → Operations M → Tape → (old new : List M) → Type 0
Swept o t old new = new ≡ values o (take t.controls old) (take (length old - t.controls) t.lines)

-- The row has the values of registers 0 to r, and every later entry as it was.
pub record Filled {K M : Type 0} (o : Operations M) (means : K → M) (t : Tape) (cs : List M) (r : ℕ) (old new : List K) : Type 0 where
  pub filled : take (r + 1) (map means new) ≡ take (r + 1) (values o cs t.lines)
  pub later : drop (r + 1) new ≡ drop (r + 1) old

module _ {K M : Type 0} (o : Operations M) (means : K → M) (t : Tape) (controls : List K) where
  pub record Valued (r : ℕ) (old new : List K) (x : K) : Type 0 where
    pub row : Filled o means t (given means t controls) r old new
    pub answer : means x ≡ at o (values o (given means t controls) t.lines) r

  pub record Sloped (direction : List K) (r : ℕ) (old new : List (Pair K)) (x : K) : Type 0 where
    pub row : Filled (dual_operations o) (dual means) t (paired (given means t controls) (given means t direction)) r old new
    pub answer : means x ≡ at o (derivatives o (values o (given means t controls) t.lines) (given means t direction) t.lines) r
