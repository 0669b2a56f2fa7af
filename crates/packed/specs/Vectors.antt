-- A tape and its packed file, byte by byte. Assumes nothing.
use Rattle.std.specs.Prelude.{ℕ, List, [], ◌∷◌}
use Rattle.tape.specs.declared.lines.Line.TheVariants.{Multiply}
use Rattle.tape.specs.Tapes.{Tape}
use Rattle.packed.specs.Formats.{Packed}

abbrev pub two_products : Tape
two_products = record { controls = 3; lines = Multiply 0 1 ∷ (Multiply 3 2 ∷ []) }

abbrev pub two_products_file : List ℕ
two_products_file = 0x03 ∷ 0x00 ∷ 0x4C ∷ 0x00 ∷ 0x00 ∷ 0x00 ∷ 0x05 ∷ 0x80 ∷ 0x01 ∷ 0x80 ∷ 0x01 ∷ 0x00 ∷ []

abbrev pub TwoProductsPacked : Type 0
TwoProductsPacked = Packed two_products two_products_file
