-- Residues: a word means its remainder of the prime, and the opposite of one is the largest remainder. Assumes nothing.
use Rattle.std.specs.Prelude.{◌≡◌, ℕ, ◌-◌, ◌%◌, ◌<◌}
use Rattle.kind.specs.Kinds.{Operations, Laws}
use Rattle.kind.specs.declared.modular.Residue.{Residue}
use Rattle.kind.specs.Reduced.{Reduced, reduced, reduced_operations, reduced_laws, remainder}

abbrev pub prime : ℕ
prime = 2147483647

abbrev pub Remainder : Type 0
Remainder = Reduced (λ n. n % prime)

abbrev pub residue_operations : Operations Remainder
residue_operations = reduced_operations (remainder prime) (prime - 1)

pub residue_laws : Laws residue_operations
residue_laws = reduced_laws (remainder prime) (prime - 1)

abbrev pub residue : Residue → Remainder
residue w = reduced (remainder prime) w.0

-- the answer is the remainder itself, where other words mean it too
abbrev pub answers_remainder : Residue → Remainder → Type 0
answers_remainder r m = (residue r ≡ m) × (r.0 < prime)
