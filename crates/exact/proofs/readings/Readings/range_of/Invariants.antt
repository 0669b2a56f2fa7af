use Rattle.std.proofs.Common.{◌≡◌, ℕ, ◌<◌, false, get_or}
use Rattle.exact.specs.Ranges.{Keeps, Range}
use Rattle.exact.specs.Readings.{read_slope, read_value, sizes_at}
use Rattle.exact.specs.Refusals.{large}
use Rattle.exact.proofs.readings.Readings.range_of.Given as goal

-- the tests so far
abbrev pub invariant-loop-r : goal.invariant-loop-r
invariant-loop-r l =
    ((k : ℕ) → k < l.r-index → large (sizes_at l.self.sizes.now (get_or l.tests k 0)) ≡ false)
    × Range (λ s. (k : ℕ) → k < l.r-index → Keeps (read_value l.self.pairs.now (get_or l.tests k 0)) (read_slope l.self.pairs.now (get_or l.tests k 0)) s) l.range.low l.range.high
