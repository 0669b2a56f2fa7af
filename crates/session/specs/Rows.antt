-- Rows of numbers. Assumes nothing.
use Rattle.std.specs.Prelude.{ℕ, min, List, ◌++◌, length, take, drop}

-- how many of the first n numbers both rows have
abbrev pub shared : {K : Type 0} → ℕ → List K → List K → ℕ
shared n from to = min (min n (length from)) (length to)

-- the first n numbers of one row, as far as both rows go, over those of another
abbrev pub copied : {K : Type 0} → ℕ → List K → List K → List K
copied n from to = take (shared n from to) from ++ drop (shared n from to) to
