-- What each party answers. Assumes nothing.
use Rattle.std.specs.Prelude.{◌≡◌, ℕ, ◌≤◌, List, length, None}
use Rattle.kind.specs.Kinds.{Operations}
use Rattle.packed.specs.Formats.{tape_of}
use Rattle.packed.specs.Looks.{fault_of}
use Rattle.session.specs.Runs.{Good}
use Rattle.session.specs.States.{State}
use Rattle.sweep.specs.Forward.{given}
use Rattle.tape.specs.Tapes.{Tape}
use Rattle.replay.specs.declared.queries.Query.{Query}
use Rattle.replay.specs.Answers.{Answer, Replied}

module _ {K M : Type 0} (o : Operations M) (means : K → M) where
  -- a session in order answers what the definitions do for its tape and controls
  abbrev pub SessionReplied : State K → Query K → Answer M → Type 0
  SessionReplied s q a = Good o means s → Replied o s.tape (given means s.tape s.row) means q a

  -- so does the exporter over a sheet, where each control has its number
  abbrev pub SheetReplied : Tape → (controls : List K) → Query K → Answer M → Type 0
  SheetReplied t controls q a = t.controls ≤ length controls → Replied o t (given means t controls) means q a

  -- and over bytes that are the packed file of a tape with as many controls
  abbrev pub FileReplied : (file : List ℕ) (controls : List K) → Query K → Answer M → Type 0
  FileReplied file controls q a = length controls ≡ (tape_of file).controls → fault_of file ≡ None → Replied o (tape_of file) (given means (tape_of file) controls) means q a
