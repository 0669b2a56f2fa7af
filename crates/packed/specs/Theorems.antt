-- What the packed file is for. Assumes nothing.
use Rattle.std.specs.Prelude.{◌≡◌, ℕ, ◌<◌, ◌≤◌, List, length, take, drop, Some, None, Ok, Err, Result}
use Rattle.tape.specs.Refusals.{notice, plain}
use Rattle.tape.specs.Tapes.{Tape, Valid}
use Rattle.packed.specs.declared.copying.CopyFault.{CopyFault}
use Rattle.packed.specs.declared.copying.CopyFault.TheVariants.{File, Buffer}
use Rattle.packed.specs.declared.faults.FileFault.{FileFault}
use Rattle.packed.specs.Formats.{Bytes, Packed, tape_of}
use Rattle.packed.specs.Faults.{finding}
use Rattle.packed.specs.Looks.{fault_of}

-- a tape that is saved is accepted, and read it is that tape
abbrev pub ReadsBack : Type 0
ReadsBack = (t : Tape) (bytes : List ℕ) → Valid t → Packed t bytes → (fault_of bytes ≡ None) × (tape_of bytes ≡ t)

-- what is accepted is the file of a tape, the one that it is read as
abbrev pub OnlyFiles : Type 0
OnlyFiles = (bytes : List ℕ) → Bytes bytes → fault_of bytes ≡ None → Packed (tape_of bytes) bytes × Valid (tape_of bytes)

-- a tape has one file
abbrev pub OneFile : Type 0
OneFile = (t : Tape) (xs ys : List ℕ) → Packed t xs → Packed t ys → xs ≡ ys

-- two different tapes have different files
abbrev pub OneTape : Type 0
OneTape = (t u : Tape) (bytes : List ℕ) → Valid t → Valid u → Packed t bytes → Packed u bytes → t ≡ u

-- what a host is told of a fault fixes it
abbrev pub OneFault : Type 0
OneFault = (e f : FileFault) → finding e ≡ finding f → e ≡ f

-- a file read and saved is the same bytes at the buffer's front, and the rest stays;
-- a file with a fault, or a buffer that is too short, is declined, and the buffer stays
abbrev pub Copied : (file before after : List ℕ) → Result ℕ CopyFault → Type 0
Copied file before after (Ok size) =
    (fault_of file ≡ None) × (size ≡ length file) × (size ≤ length before) × (take size after ≡ file) × (drop size after ≡ drop size before)
Copied file before after (Err (File e)) = (fault_of file ≡ Some (finding e)) × (after ≡ before)
Copied file before after (Err (Buffer e)) = (fault_of file ≡ None) × (length before < length file) × (notice e ≡ plain 2) × (after ≡ before)
