-- The whole numbers keep the laws of a number kind, so what the laws give holds of them too. Assumes nothing.
use Rattle.std.proofs.Common.{◌≡◌, ◌*◌, ℤ, ◌+ℤ◌, ◌*ℤ◌, refl, ap, arith}
use lib.IntN.{+ℤ_assoc, +ℤ_comm, +ℤ_idl, *ℤ_comm, zero-*ℤ}
use borrow.Author.Differences.{up, down, neg_is, product_is, same_in, sum_is_lem}
use Rattle.kind.specs.Kinds.{Laws}
use Rattle.exact.specs.Wholes.{whole_operations}

times_assoc : (a b c : ℤ) → (a *ℤ b) *ℤ c ≡ a *ℤ (b *ℤ c)
times_assoc a b c =
    let ab = product_is a b in
    let bc = product_is b c in
    let l₁ = ap (λ x. x * up c) ab.0 in
    let l₂ = ap (λ x. x * down c) ab.0 in
    let l₃ = ap (λ x. x * up c) ab.1 in
    let l₄ = ap (λ x. x * down c) ab.1 in
    let r₁ = ap (λ x. up a * x) bc.0 in
    let r₂ = ap (λ x. down a * x) bc.0 in
    let r₃ = ap (λ x. up a * x) bc.1 in
    let r₄ = ap (λ x. down a * x) bc.1 in
    omega (arith, same_in, product_is)

times_plus : (a b c : ℤ) → a *ℤ (b +ℤ c) ≡ (a *ℤ b) +ℤ (a *ℤ c)
times_plus a b c =
    let sum = sum_is_lem b c in
    let above = ap (λ x. up a * x) sum in
    let below = ap (λ x. down a * x) sum in
    omega (arith, same_in, sum_is_lem, product_is)

pub whole_laws : Laws whole_operations
whole_laws = record {
  plus_comm = +ℤ_comm;
  plus_assoc = +ℤ_assoc;
  zero_plus = +ℤ_idl;
  times_comm = *ℤ_comm;
  times_assoc = times_assoc;
  one_times = λ a. omega (arith, same_in, product_is);
  zero_times = zero-*ℤ;
  times_plus = times_plus;
  opposite_is = λ a. omega (arith, same_in, neg_is, product_is);
  image_zero = refl;
  image_next = λ n. omega (arith, same_in, sum_is_lem);
  image_minus = λ n. refl;
}
