-- How one test narrows a range of steps. Assumes nothing.
use Rattle.std.specs.Prelude.{ℕ, ◌+◌, ◌-◌, ◌*◌, ◌≤◌, ℤ, pos, negsuc, unsigned_abs}
use Rattle.exact.specs.Ranges.{Between, Keeps, Span}

-- how far a value may fall or rise before its test is lost: to 1 from above, to 0 from below
abbrev pub slack : ℤ → ℕ
slack (pos n) = n - 1
slack (negsuc n) = n + 1

-- of the steps up to the span's end, those up to far move a value by its slack at most
pub record Reaches (v t : ℤ) (far : ℕ) : Type 0 where
  pub in_span : far ≤ 1000000
  pub near : (k : ℕ) → k ≤ far → k * unsigned_abs t ≤ slack v
  pub only : (k : ℕ) → k ≤ 1000000 → k * unsigned_abs t ≤ slack v → k ≤ far

-- the steps from low' to high' are those from low to high that keep the test
pub record Narrowed (low high v t low' high' : ℤ) : Type 0 where
  pub low_in : Span low'
  pub high_in : Span high'
  pub stay : Between low' high' (pos 0)
  pub within : (s : ℤ) → Between low' high' s → Between low high s × Keeps v t s
  pub only : (s : ℤ) → Span s → Between low high s → Keeps v t s → Between low' high' s
