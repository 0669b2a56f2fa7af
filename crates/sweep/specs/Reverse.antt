-- What a walk down the lines leaves and answers, over any row of values. Assumes nothing.
use Rattle.std.specs.Prelude.{◌≡◌, ℕ, ◌*◌, ◌<◌, ◌≤◌, List, map, length, take, drop}
use Rattle.kind.specs.Kinds.{Operations}
use Rattle.kind.specs.Rows.{dot_product}
use Rattle.tape.specs.Derivatives.{perturbed}
use Rattle.tape.specs.Rows.{at, unit}
use Rattle.tape.specs.Tapes.{Tape, registers}
use Rattle.tape.specs.Values.{backward_count, evaluation_count}

module _ {M : Type 0} (o : Operations M) where
  -- Each entry of the adjoint row says how much the weighted registers move with its register: for every row δ of perturbations,
  -- one for each register, their weighted tangents are the sum of the products.
  abbrev pub Transposes : (vs : List M) → Tape → (weights adjoint : List M) → Type 0
  Transposes vs t weights adjoint = (δ : List M) → length δ ≡ registers t → dot_product o adjoint δ ≡ dot_product o weights (perturbed o vs t δ)

  -- the sensitivity of register r to register q: how r moves where q alone is moved by one
  abbrev pub sensitivity : (vs : List M) → Tape → (r q : ℕ) → M
  sensitivity vs t r q = at o (perturbed o vs t (unit o (registers t) q)) r

  -- the new row has the products of the old one with every row m, and `gain m` besides
  abbrev pub Gains : (old new : List M) → (gain : List M → M) → Type 0
  Gains old new gain = (m : List M) → length m ≡ length old → dot_product o new m ≡ o.plus (dot_product o old m) (gain m)

-- The adjoint row of register r, and every entry past the registers as it was.
pub record Adjoint {K M : Type 0} (o : Operations M) (means : K → M) (t : Tape) (vs : List M) (r : ℕ) (old new : List K) : Type 0 where
  pub transposes : Transposes o vs t (unit o (registers t) r) (map means (take (registers t) new))
  pub entries : (q : ℕ) → q < registers t → at o (map means new) q ≡ sensitivity o vs t r q
  pub later : drop (registers t) new ≡ drop (registers t) old

-- The operations of the walk from r: the count, at most four times the evaluation's.
pub record Counted (t : Tape) (r operations : ℕ) : Type 0 where
  pub count : operations ≡ backward_count t r
  pub cheap : operations ≤ 4 * evaluation_count t r

pub record Walked {K M : Type 0} (o : Operations M) (means : K → M) (t : Tape) (vs : List M) (r : ℕ) (old new : List K) (operations : ℕ) : Type 0 where
  pub adjoint : Adjoint o means t vs r old new
  pub operations_are : Counted t r operations
