-- The values of a tape's registers, and what it takes to work them out. Assumes nothing.
use Rattle.std.specs.Prelude.{ℕ, ◌+◌, ◌-◌, List, take, sum_by}
use Rattle.kind.specs.Kinds.{Operations}
use Rattle.tape.specs.declared.lines.Line.{Line}
use Rattle.tape.specs.declared.lines.Line.TheVariants.{Constant, Add, Subtract, Multiply, Opposite}
use Rattle.tape.specs.Rows.{at, grow}
use Rattle.tape.specs.Tapes.{Tape}

module _ {M : Type 0} (o : Operations M) where
  -- what a line comes to, where its registers are worth v
  abbrev pub applied : (v : ℕ → M) → Line → M
  applied v (Constant c) = o.image c
  applied v (Add a b) = o.plus (v a) (v b)
  applied v (Subtract a b) = o.plus (v a) (o.opposite (v b))
  applied v (Multiply a b) = o.times (v a) (v b)
  applied v (Opposite a) = o.opposite (v a)

  abbrev pub line_value : Line → List M → M
  line_value l row = applied (at o row) l

  -- the values of all registers
  abbrev pub values : (controls : List M) → List Line → List M
  values controls lines = grow line_value controls lines

-- the operations of a line when it is worked out, and when the backward walk passes it

abbrev pub evaluation_cost : Line → ℕ
evaluation_cost (Constant c) = 0
evaluation_cost (Add a b) = 1
evaluation_cost (Subtract a b) = 2
evaluation_cost (Multiply a b) = 1
evaluation_cost (Opposite a) = 1

abbrev pub backward_cost : Line → ℕ
backward_cost (Constant c) = 0
backward_cost (Add a b) = 2
backward_cost (Subtract a b) = 3
backward_cost (Multiply a b) = 4
backward_cost (Opposite a) = 2

-- the lines at or below register r
abbrev pub lines_to : Tape → ℕ → List Line
lines_to t r = take (r + 1 - t.controls) t.lines

abbrev pub evaluation_count : Tape → ℕ → ℕ
evaluation_count t r = sum_by evaluation_cost (lines_to t r)

abbrev pub backward_count : Tape → ℕ → ℕ
backward_count t r = sum_by backward_cost (lines_to t r)
