-- What a view means, and what is answered of a file. Assumes nothing.
use Rattle.std.specs.Prelude.{◌≡◌, ℕ, ◌≤◌, List, Some, None, Ok, Err, Result}
use Rattle.std.proofs.Common.{sym, subst}
use Rattle.tape.specs.Tapes.{Tape, Valid}
use Rattle.packed.specs.declared.faults.FileFault.{FileFault}
use Rattle.packed.specs.declared.views.View.{View}
use Rattle.packed.specs.Formats.{Packed, lines_in, tape_of}
use Rattle.packed.specs.Faults.{finding}
use Rattle.packed.specs.Looks.{fault_of}

abbrev pub view_tape : View → Tape
view_tape v = record { controls = v.controls; lines = lines_in v.bytes.now v.count }

-- its ghost fields are the rules of tapes
pub view_valid : (v : View) → Valid (view_tape v)
view_valid v = record {
  some_control = v.some;
  few_controls = v.few;
  few_lines = subst (λ k. k ≤ 1024) (sym v.filled) v.room;
  below = v.below;
  fit = v.fit;
}

-- a file without a fault is the packed file of the tape that its view means; of any other the fault is told
abbrev pub Opens : List ℕ → Result View FileFault → Type 0
Opens bytes (Ok v) = (fault_of bytes ≡ None) × (view_tape v ≡ tape_of bytes) × Packed (tape_of bytes) bytes
Opens bytes (Err e) = fault_of bytes ≡ Some (finding e)
