-- Ticks: a signed number means its word of 64 bits, and the opposite of one is the word of ones. Assumes nothing.
use Rattle.std.specs.Prelude.{◌-◌, ◌%◌, ◌^◌}
use Rattle.std.specs.Int.{w64}
use Rattle.std.proofs.Common.{of_z}
use Rattle.kind.specs.Kinds.{Operations, Laws}
use Rattle.kind.specs.declared.wrapping.Ticks.{Ticks}
use Rattle.kind.specs.Reduced.{Reduced, reduced, reduced_operations, reduced_laws, remainder}

abbrev pub Word : Type 0
Word = Reduced (λ n. n % 2 ^ 64)

abbrev pub tick_operations : Operations Word
tick_operations = reduced_operations (remainder (2 ^ 64)) (2 ^ 64 - 1)

pub tick_laws : Laws tick_operations
tick_laws = reduced_laws (remainder (2 ^ 64)) (2 ^ 64 - 1)

abbrev pub tick : Ticks → Word
tick t = reduced (remainder (2 ^ 64)) (of_z w64 t.0)
