-- Sizes: a number up to the cap means itself, and the opposite of one is one, so that each size is its own opposite.
-- Assumes nothing.
use Rattle.std.specs.Prelude.{ℕ, ◌-◌, ◌^◌, min}
use Rattle.kind.specs.Kinds.{Operations, Laws}
use Rattle.kind.specs.declared.capped.Size.{Size}
use Rattle.kind.specs.Reduced.{Reduced, reduced, reduced_operations, reduced_laws, cap}

abbrev pub capped : ℕ → ℕ
capped n = min n (2 ^ 64 - 1)

abbrev pub Capped : Type 0
Capped = Reduced capped

abbrev pub size_operations : Operations Capped
size_operations = reduced_operations (cap (2 ^ 64 - 1)) 1

pub size_laws : Laws size_operations
size_laws = reduced_laws (cap (2 ^ 64 - 1)) 1

abbrev pub size : Size → Capped
size s = reduced (cap (2 ^ 64 - 1)) s.0
