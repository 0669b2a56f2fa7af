-- The whole numbers as a kind's operations, and what a call that asks for them is about. Assumes nothing.
use Rattle.std.specs.Prelude.{ℕ, List, map, take, ℤ, pos, ◌+ℤ◌, ◌*ℤ◌, neg_ℤ}
use Rattle.kind.specs.declared.wrapping.Ticks.{Ticks}
use Rattle.kind.specs.Dual.{Dual, dual_operations}
use Rattle.kind.specs.Kinds.{Operations}
use Rattle.sweep.specs.Forward.{paired}
use Rattle.tape.specs.Derivatives.{derivatives}
use Rattle.tape.specs.Rows.{at}
use Rattle.tape.specs.Tapes.{Tape}
use Rattle.tape.specs.Values.{values}

-- each whole number is its own image, and nothing wraps
abbrev pub whole_operations : Operations ℤ
whole_operations = record { zero = pos 0; one = pos 1; plus = ◌+ℤ◌; times = ◌*ℤ◌; opposite = neg_ℤ; image = λ z. z }

-- A tape, the ticks of its controls, and a direction. Of the two rows an entry for each control counts.
pub record Question : Type 0 where
  pub tape : Tape
  pub controls : List Ticks
  pub direction : List Ticks

abbrev pub question : Tape → List Ticks → List Ticks → Question
question tape controls direction = record { tape = tape; controls = controls; direction = direction }

-- the first n ticks as signed numbers
abbrev pub signed : ℕ → List Ticks → List ℤ
signed n ticks = map (λ t. t.0) (take n ticks)

module _ (q : Question) where
  abbrev pub point : List ℤ
  point = signed q.tape.controls q.controls

  abbrev pub along : List ℤ
  along = signed q.tape.controls q.direction

  -- the value of register r in whole numbers, and its slope: the definitions of every kind, with no wrap

  abbrev pub whole_value : (r : ℕ) → ℤ
  whole_value r = at whole_operations (values whole_operations point q.tape.lines) r

  abbrev pub whole_slope : (r : ℕ) → ℤ
  whole_slope r = at whole_operations (derivatives whole_operations (values whole_operations point q.tape.lines) along q.tape.lines) r

  -- control by control, the images of its number and of its entry in the direction
  abbrev pub images : {M : Type 0} → Operations M → List (Dual M)
  images o = paired (map o.image point) (map o.image along)

  -- the pair of register r in another kind, from these images
  abbrev pub image_pair : {M : Type 0} → Operations M → (r : ℕ) → Dual M
  image_pair o r = at (dual_operations o) (values (dual_operations o) (images o) q.tape.lines) r
