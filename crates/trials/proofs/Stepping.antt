-- The steps that keep one test, over the whole span. Assumes nothing.
use Rattle.std.proofs.Common.{ℕ, ◌≤◌, ℤ, pos, negsuc, ◌≤ℤ◌, ◌<ℤ◌, arith}
use Rattle.std.proofs.lemmas.Int.{clamps, ints}
use Rattle.exact.specs.Narrowing.{Narrowed, Reaches}
use Rattle.exact.specs.Ranges.{Between, Keeps, Range, Span}
use Rattle.exact.proofs.RangeLaws.{narrowed_above}

whole_span : Span (negsuc 999999) × Span (pos 1000000) × Between (negsuc 999999) (pos 1000000) (pos 0)
whole_span = (record { from = omega (arith, ints); to = omega (arith, ints) }, record { from = omega (arith, ints); to = omega (arith, ints) }, record { from = omega (arith, ints); to = omega (arith, ints) })

-- a value that goes towards 0, or from 0 or less towards above it, keeps its test up to the last step in reach
up_to : (v t : ℤ) (far : ℕ) → far ≤ 1000000 → Reaches v t far → (pos 0 <ℤ v → t <ℤ pos 0) → (v ≤ℤ pos 0 → pos 0 <ℤ t) → Range (Keeps v t) (negsuc 999999) (pos far)
up_to v t far less reach down up =
    let n : Narrowed (negsuc 999999) (pos 1000000) v t (negsuc 999999) (pos far) =
    narrowed_above (negsuc 999999) (pos 1000000) v t whole_span.0 whole_span.1 whole_span.2 far (pos far) reach down up (omega (arith, ints, clamps)) in
    record { low_in = n.low_in; high_in = n.high_in; stay = n.stay; within = λ s h. (n.within s h).1; only = λ s span keeps. n.only s span span keeps }

pub from_9 : Range (Keeps (pos 9) (negsuc 2)) (negsuc 999999) (pos 2)
from_9 =
    up_to (pos 9) (negsuc 2) 2 (omega arith) (record { in_span = omega arith; near = λ k h. omega arith; only = λ k h few. omega arith }) (λ h. omega (arith, ints)) (λ h. absurd (omega (arith, ints)))

pub from_10 : Range (Keeps (pos 10) (negsuc 2)) (negsuc 999999) (pos 3)
from_10 =
    up_to (pos 10) (negsuc 2) 3 (omega arith) (record { in_span = omega arith; near = λ k h. omega arith; only = λ k h few. omega arith }) (λ h. omega (arith, ints)) (λ h. absurd (omega (arith, ints)))

pub from_minus_6 : Range (Keeps (negsuc 5) (pos 2)) (negsuc 999999) (pos 3)
from_minus_6 =
    up_to (negsuc 5) (pos 2) 3 (omega arith) (record { in_span = omega arith; near = λ k h. omega arith; only = λ k h few. omega arith }) (λ h. absurd (omega (arith, ints))) (λ h. omega (arith, ints))
