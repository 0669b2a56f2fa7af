-- What a host is told of a file's fault. Assumes nothing.
use Rattle.std.specs.Prelude.{ℕ, Some, None, Option}
use Rattle.packed.specs.declared.faults.FileFault.{FileFault}
use Rattle.packed.specs.declared.faults.FileFault.TheVariants.{Controls, Lines, Short, Surplus, Line}
use Rattle.packed.specs.declared.faults.LineFault.TheVariants.{Kind, Register, Spare}

-- The fault's number, the line that has it and the register that it names, if there is one, and the bit of the field, counted from 0.
pub record Finding : Type 0 where
  pub number : ℕ
  pub line : Option ℕ
  pub named : Option ℕ
  pub bit : ℕ

abbrev pub in_file : (number bit : ℕ) → Finding
in_file number bit = record { number = number; line = None; named = None; bit = bit }

abbrev pub in_line : (number j bit : ℕ) → Finding
in_line number j bit = record { number = number; line = Some j; named = None; bit = bit }

abbrev pub naming : (number j r bit : ℕ) → Finding
naming number j r bit = record { number = number; line = Some j; named = Some r; bit = bit }

abbrev pub finding : FileFault → Finding
finding Controls = in_file 1 0
finding Lines = in_file 3 8
finding (Short bit) = in_file 7 bit
finding (Surplus bit) = in_file 8 bit
finding (Line j Kind bit) = in_line 4 j bit
finding (Line j (Register r) bit) = naming 5 j r bit
finding (Line j Spare bit) = in_line 9 j bit

abbrev pub found : Option FileFault → Option Finding
found (Some e) = Some (finding e)
found None = None
