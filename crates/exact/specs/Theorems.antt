-- What ticks and sizes tell of whole numbers. Assumes nothing.
use Rattle.std.specs.Prelude.{◌≡◌, ℕ, ◌-◌, ◌^◌, ◌<◌, ◌≤◌, List, length, ℤ, pos, ◌+ℤ◌, FitsSigned, unsigned_abs}
use Rattle.std.specs.Int.{w64}
use Rattle.std.proofs.Common.{to_z}
use Rattle.kind.specs.declared.wrapping.Ticks.{Ticks}
use Rattle.kind.specs.Capped.{Capped, size_operations}
use Rattle.kind.specs.Wrapping.{Word, tick, tick_operations}
use Rattle.tape.specs.Tapes.{Valid}
use Rattle.exact.specs.declared.answers.StepRange.{StepRange}
use Rattle.exact.specs.Ranges.{KeepsAll, Span}
use Rattle.exact.specs.Steps.{KeepsTests}
use Rattle.exact.specs.Wholes.{Question, image_pair, whole_slope, whole_value}

-- The word w and the size s of the whole number z: the word is z modulo 2^64; a size below the cap bounds z; and below 2^63 it
-- makes z what the word reads as.
pub record Bounded (z : ℤ) (w : Word) (s : Capped) : Type 0 where
  pub modulo : w ≡ tick_operations.image z
  pub within : s.number < 2 ^ 64 - 1 → unsigned_abs z ≤ s.number
  pub read : s.number < 2 ^ 63 → to_z w64 w.number ≡ z

-- for every valid tape, controls, direction and register
abbrev pub TicksAndSizes : Type 0
TicksAndSizes =
    (q : Question) → Valid q.tape → q.tape.controls ≤ length q.controls → q.tape.controls ≤ length q.direction → (r : ℕ)
    → Bounded (whole_value q r) (image_pair q tick_operations r).value (image_pair q size_operations r).value
    × Bounded (whole_slope q r) (image_pair q tick_operations r).tangent (image_pair q size_operations r).tangent

-- ticks that a signed word holds are the image of its number, so that the row of ticks is the one that a slope fills
abbrev pub TicksAreImages : Type 0
TicksAreImages = (t : Ticks) → FitsSigned w64 t.0 → tick t ≡ tick_operations.image t.0

-- a list of tests has one range of steps at most, and the steps next to its ends, where they are of the span, lose a test
pub record RangeIsWidest : Type 0 where
  pub one : (q : Question) (tests : List ℕ) (a b : StepRange) → KeepsTests q tests a → KeepsTests q tests b → (a.low ≡ b.low) × (a.high ≡ b.high)
  pub below : (q : Question) (tests : List ℕ) (range : StepRange) (s : ℤ) → KeepsTests q tests range → s +ℤ pos 1 ≡ range.low → Span s → KeepsAll (whole_value q) (whole_slope q) tests s → ⊥
  pub above : (q : Question) (tests : List ℕ) (range : StepRange) (s : ℤ) → KeepsTests q tests range → range.high +ℤ pos 1 ≡ s → Span s → KeepsAll (whole_value q) (whole_slope q) tests s → ⊥
