-- Rows of numbers, one for each register. Assumes nothing.
use Rattle.std.specs.Prelude.{ℕ, List, [], ◌∷◌, ◌++◌, replicate, slice_index_or, slice_set}
use Rattle.kind.specs.Kinds.{Operations}
use Rattle.tape.specs.declared.lines.Line.{Line}

-- the entry of a register, zero past the row's end
abbrev pub at : {M : Type 0} → Operations M → List M → ℕ → M
at o row k = slice_index_or row k o.zero

-- the row of n entries that is one at i and zero elsewhere
abbrev pub unit : {M : Type 0} → Operations M → ℕ → ℕ → List M
unit o n i = slice_set (replicate n o.zero) i o.one

-- a row that grows by one entry for each line, worked out from the row so far
abbrev pub grow : {M : Type 0} → (Line → List M → M) → List M → List Line → List M
grow rule row [] = row
grow rule row (l ∷ ls) = grow rule (row ++ (rule l row ∷ [])) ls
