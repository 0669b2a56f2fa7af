-- What a line reads. Assumes nothing.
use Rattle.std.specs.Prelude.{◌≡◌, ℕ, Bool, false, ◌||◌, ℤ, pos, nat_le}
use Rattle.tape.specs.declared.lines.Line.{Line}
use Rattle.tape.specs.declared.lines.Line.TheVariants.{Constant, Add, Subtract, Multiply, Opposite}

-- the line reads a register that passes the test
abbrev pub reads : Line → (ℕ → Bool) → Bool
reads (Constant c) test = false
reads (Add a b) test = test a || test b
reads (Subtract a b) test = test a || test b
reads (Multiply a b) test = test a || test b
reads (Opposite a) test = test a

-- the line reads only registers below k
abbrev pub Below : ℕ → Line → Type 0
Below k l = reads l (nat_le k) ≡ false

-- the constant of a line, 0 where it has none
abbrev pub constant : Line → ℤ
constant (Constant c) = c
constant (Add a b) = pos 0
constant (Subtract a b) = pos 0
constant (Multiply a b) = pos 0
constant (Opposite a) = pos 0
