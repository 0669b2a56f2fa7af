-- Dependence: a number kind over the two truth values, with "or" as the sum and "and" as the product. Assumes nothing.
use Rattle.std.specs.Prelude.{zero, suc, Bool, true, false, ◌&&◌, ◌||◌, ℤ, pos, negsuc, refl}
use Rattle.std.proofs.Math.Bool.{or_comm, or_assoc, or-true, and_comm, and_assoc, and-or_distrib_left}
use Rattle.std.proofs.Common.{sym}
use Rattle.kind.specs.Kinds.{Operations, Laws}
use Rattle.dependencies.specs.declared.patterns.Dependence.{Dependence}

abbrev pub nonzero : ℤ → Bool
nonzero (pos zero) = false
nonzero (pos (suc n)) = true
nonzero (negsuc n) = true

abbrev pub pattern_operations : Operations Bool
pattern_operations = record { zero = false; one = true; plus = ◌||◌; times = ◌&&◌; opposite = λ a. a; image = nonzero }

pub pattern_laws : Laws pattern_operations
pattern_laws = record {
  plus_comm = or_comm;
  plus_assoc = or_assoc;
  zero_plus = λ a. refl;
  times_comm = and_comm;
  times_assoc = and_assoc;
  one_times = λ a. refl;
  zero_times = λ a. refl;
  times_plus = and-or_distrib_left;
  opposite_is = λ a. refl;
  image_zero = refl;
  image_next = λ n. sym (or-true (nonzero (pos n)));
  image_minus = λ n. refl;
}

-- one spelling for each meaning, so that an answer's meaning fixes the answer
abbrev pub depends : Dependence → Bool
depends d = d.0
