-- What the answers of ticks and residues mean. Assumes nothing.
use Rattle.std.proofs.Common.{◌≡◌, ℕ, zero, suc, ◌+◌, ◌-◌, ◌*◌, ◌%◌, ◌^◌, ◌<◌, ℤ, pos, negsuc, neg_ℤ, nat_abs, refl, ap, ◌∙◌, arith, w64, SFits, to_z, of_z}
use Rattle.std.specs.Int.{int_rem_euclid, int_wrap}
use Rattle.std.proofs.lemmas.Int.{of_z-to_z, ints}
use Rattle.kind.specs.Capped.{capped, size, size_operations}
use Rattle.kind.specs.Reduced.{cap, reduced, reduced_path, reduced_plus, reduced_times, remainder}
use Rattle.kind.specs.Modular.{prime, residue, residue_operations}
use Rattle.kind.specs.Wrapping.{tick, tick_operations}

-- One less than the modulus stands for minus one.

minus_word : (n : ℕ) → (2 ^ 64 - n % 2 ^ 64) % 2 ^ 64 ≡ ((2 ^ 64 - 1) * n) % 2 ^ 64
minus_word n = omega arith

minus_residue : (n : ℕ) → (prime - n % prime) % prime ≡ ((prime - 1) * n) % prime
minus_residue n = omega arith

-- A word that is read as a signed number means itself.
tick_below : (n : ℕ) → n < 2 ^ 64 → tick (record { 0 = to_z w64 n }) ≡ reduced (remainder (2 ^ 64)) n
tick_below n below = ap (reduced (remainder (2 ^ 64))) (of_z-to_z w64 n below)

pub tick_word : (n : ℕ) → tick (record { 0 = to_z w64 (n % 2 ^ 64) }) ≡ reduced (remainder (2 ^ 64)) (n % 2 ^ 64)
tick_word n = tick_below (n % 2 ^ 64) (omega arith)

opposite_word : (z : ℤ) → SFits w64 z → tick (record { 0 = int_wrap w64 (neg_ℤ z) }) ≡ tick_operations.opposite (tick (record { 0 = z }))
unfolding int_wrap
opposite_word (pos zero) f = refl
opposite_word (pos (suc n)) f = tick_below (2 ^ 64 - 1 - n % 2 ^ 64) (omega arith) ∙ reduced_path (omega (arith, minus_word (suc n % 2 ^ 64)))
opposite_word (negsuc n) f = tick_word (suc n) ∙ reduced_path (omega (arith, ints, minus_word (of_z w64 (negsuc n) % 2 ^ 64)))

pub tick_opposite : (r z : ℤ) → SFits w64 z → r ≡ int_wrap w64 (neg_ℤ z) → tick (record { 0 = r }) ≡ tick_operations.opposite (tick (record { 0 = z }))
tick_opposite r z f is = ap (λ x. tick (record { 0 = x })) is ∙ opposite_word z f

pub tick_image : (z : ℤ) → SFits w64 z → tick (record { 0 = z }) ≡ tick_operations.image z
tick_image (pos n) f = reduced_path (omega arith)
tick_image (negsuc n) f = reduced_path (omega (arith, minus_word (suc n)))

pub residue_image : (z : ℤ) → residue (record { 0 = nat_abs (int_rem_euclid z (pos prime)) }) ≡ residue_operations.image z
residue_image (pos n) = reduced_path (omega arith)
residue_image (negsuc n) =
    let step : (prime - 1 - n % prime) % prime ≡ (prime - suc n % prime) % prime = omega arith in
    reduced_path (step ∙ minus_residue (suc n))

pub residue_below : (z : ℤ) → nat_abs (int_rem_euclid z (pos prime)) < prime
residue_below (pos n) = omega arith
residue_below (negsuc n) = omega arith

-- A capped sum or product means the sum or product of the meanings.

pub size_plus : (r a b : ℕ) → r ≡ capped (a + b) → size (record { 0 = r }) ≡ size_operations.plus (size (record { 0 = a })) (size (record { 0 = b }))
size_plus r a b is = ap (λ n. size (record { 0 = n })) is ∙ reduced_plus (cap _) a b

pub size_times : (r a b : ℕ) → r ≡ capped (a * b) → size (record { 0 = r }) ≡ size_operations.times (size (record { 0 = a })) (size (record { 0 = b }))
size_times r a b is = ap (λ n. size (record { 0 = n })) is ∙ reduced_times (cap _) a b
