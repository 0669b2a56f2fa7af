-- Steps along a direction, and the range of those that keep every test. Assumes nothing.
use Rattle.std.specs.Prelude.{ℕ, ◌<◌, List, length, ℤ, pos, negsuc, ◌+ℤ◌, ◌*ℤ◌, ◌≤ℤ◌, ◌<ℤ◌, slice_index}

-- Step s takes the value v with slope t to v + s × t. It keeps the test if that is above 0 for v above 0, and 0 or less otherwise.
pub record Keeps (v t s : ℤ) : Type 0 where
  pub above : pos 0 <ℤ v → pos 0 <ℤ (v +ℤ s *ℤ t)
  pub not_above : v ≤ℤ pos 0 → (v +ℤ s *ℤ t) ≤ℤ pos 0

-- the step keeps the test of every register of a list, whose values and slopes are given
abbrev pub KeepsAll : (value slope : ℕ → ℤ) → List ℕ → ℤ → Type 0
KeepsAll value slope tests s = (i : ℕ) → i < length tests → Keeps (value (slice_index tests i)) (slope (slice_index tests i)) s

pub record Between (low high s : ℤ) : Type 0 where
  pub from : low ≤ℤ s
  pub to : s ≤ℤ high

-- the steps that come into question: from −1,000,000 to 1,000,000
abbrev pub Span : ℤ → Type 0
Span s = Between (negsuc 999999) (pos 1000000) s

-- The steps of the span with the property P are those from low to high, and no others: the neighbours outside lack it.
-- Step 0, which moves nothing, is one of them.
pub record Range (P : ℤ → Type 0) (low high : ℤ) : Type 0 where
  pub low_in : Span low
  pub high_in : Span high
  pub stay : Between low high (pos 0)
  pub within : (s : ℤ) → Between low high s → P s
  pub only : (s : ℤ) → Span s → P s → Between low high s
