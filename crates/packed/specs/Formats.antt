-- The packed file of a tape, and the tape that a file's fields write. Assumes nothing.
use Rattle.std.specs.Prelude.{◌≡◌, ℕ, zero, suc, ◌+◌, ◌-◌, ◌*◌, ◌/◌, ◌<◌, List, ◌++◌, map, length, replicate, slice_index}
use Rattle.std.specs.Int.{w32}
use Rattle.std.proofs.Common.{of_z, to_z}
use Rattle.std.specs.List.{flat_map, range_with_len}
use Rattle.tape.specs.declared.lines.Line.{Line}
use Rattle.tape.specs.declared.lines.Line.TheVariants.{Constant, Add, Subtract, Multiply, Opposite}
use Rattle.tape.specs.Tapes.{Tape}
use Rattle.packed.specs.Bits.{bits, spread, field}

-- 3 bits for the kind, then the constant in 32, in two's complement, or two registers in 16 each
abbrev pub line_bits : Line → List ℕ
line_bits (Constant c) = bits 3 0 ++ bits 32 (of_z w32 c)
line_bits (Add a b) = bits 3 1 ++ (bits 16 a ++ bits 16 b)
line_bits (Subtract a b) = bits 3 2 ++ (bits 16 a ++ bits 16 b)
line_bits (Multiply a b) = bits 3 3 ++ (bits 16 a ++ bits 16 b)
line_bits (Opposite a) = bits 3 4 ++ (bits 16 a ++ bits 16 0)

abbrev pub tape_bits : Tape → List ℕ
tape_bits t = bits 8 t.controls ++ (bits 11 (length t.lines) ++ flat_map line_bits t.lines)

abbrev pub Bytes : List ℕ → Type 0
Bytes bytes = (i : ℕ) → slice_index bytes i < 256

-- the packed file of t: bytes, whose bits are the tape's, then fewer than eight zeros
abbrev pub Packed : Tape → List ℕ → Type 0
Packed t bytes =
    Bytes bytes × (8 * length bytes < length (tape_bits t) + 8) × (spread bytes ≡ tape_bits t ++ replicate (8 * length bytes - length (tape_bits t)) 0)

-- the bit where line j starts, and where m lines end
abbrev pub line_start : ℕ → ℕ
line_start j = 19 + 35 * j

-- the bytes of a file of m lines
abbrev pub file_length : ℕ → ℕ
file_length m = (line_start m + 7) / 8

-- the line that its fields write: the kind, and the 32 bits whole and as two registers
abbrev pub line_of : (kind whole first second : ℕ) → Line
line_of zero whole first second = Constant (to_z w32 whole)
line_of (suc zero) whole first second = Add first second
line_of (suc (suc zero)) whole first second = Subtract first second
line_of (suc (suc (suc zero))) whole first second = Multiply first second
line_of (suc (suc (suc (suc k)))) whole first second = Opposite first

abbrev pub line_at : List ℕ → ℕ → Line
line_at bytes at = line_of (field bytes at 3) (field bytes (at + 3) 32) (field bytes (at + 3) 16) (field bytes (at + 19) 16)

-- the first m lines
abbrev pub lines_in : List ℕ → ℕ → List Line
lines_in bytes m = map (λ j. line_at bytes (line_start j)) (range_with_len 0 m)

abbrev pub tape_of : List ℕ → Tape
tape_of bytes = record { controls = field bytes 0 8; lines = lines_in bytes (field bytes 8 11) }
