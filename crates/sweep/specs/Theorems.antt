-- How the answers of the queries fit together, whatever the rows held before. Assumes nothing.
use Rattle.std.specs.Prelude.{◌≡◌, ℕ, ◌≤◌, List, length}
use Rattle.kind.specs.declared.dual.Pair.{Pair}
use Rattle.kind.specs.Kinds.{Operations}
use Rattle.kind.specs.Rows.{dot_product}
use Rattle.tape.specs.Tapes.{Tape}
use Rattle.sweep.specs.declared.answers.Gradient.{Gradient}
use Rattle.sweep.specs.Forward.{Sloped, given}
use Rattle.sweep.specs.Queries.{Bent, Graded}

module _ {K M : Type 0} (o : Operations M) (means : K → M) (t : Tape) (controls : List K) where
  -- the gradient that one call leaves, times a direction, is the slope that another answers
  abbrev pub ReverseIsForward : Type 0
  ReverseIsForward =
      (direction : List K) (r : ℕ) (old new before after : List K) (old' new' : List (Pair K)) (answer : Gradient K) (slope : K) → t.controls ≤ length direction
      → Graded o means t controls r old new before after answer → Sloped o means t controls direction r old' new' slope
      → dot_product o (given means t after) (given means t direction) ≡ means slope

  -- the bend along d, times e, is the bend along e, times d
  abbrev pub BendsTurn : Type 0
  BendsTurn =
      (d e : List K) (r : ℕ) (old new before after old' new' before' after' : List (Pair K)) (out bent out' bent' : List K) → t.controls ≤ length d → t.controls ≤ length e
      → Bent o means t controls d r old new before after out bent → Bent o means t controls e r old' new' before' after' out' bent'
      → dot_product o (given means t bent) (given means t e) ≡ dot_product o (given means t bent') (given means t d)
