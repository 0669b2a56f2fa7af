-- What a run keeps: a session that is in order, and its book. Assumes nothing.
use Rattle.std.specs.Prelude.{◌≡◌, ℕ, ◌+◌, ◌<◌, ◌≤◌, false, map, length, take}
use Rattle.kind.specs.Kinds.{Operations}
use Rattle.tape.specs.Lines.{reads}
use Rattle.tape.specs.Marks.{mark, stale_register}
use Rattle.tape.specs.Rows.{at}
use Rattle.tape.specs.Tapes.{line, registers}
use Rattle.tape.specs.Values.{applied}
use Rattle.session.specs.Books.{Book}
use Rattle.session.specs.States.{State}

module _ {K M : Type 0} (o : Operations M) (means : K → M) where
  -- the book of a state
  abbrev pub book : State K → Book M
  book s = record { tape = s.tape; controls = map means (take s.tape.controls s.row) }

  -- the row is full; every unmarked line's number is the line applied to the row, and it reads no stale line
  pub record Good (s : State K) : Type 0 where
    pub fits : registers s.tape ≤ length s.row
    pub right : (j : ℕ) → j < length s.tape.lines → mark s.marks j ≡ false → at o (map means s.row) (s.tape.controls + j) ≡ applied o (at o (map means s.row)) (line s.tape j)
    pub fresh : (j : ℕ) → j < length s.tape.lines → mark s.marks j ≡ false → reads (line s.tape j) (stale_register s.tape.controls s.marks) ≡ false

  -- a session in order, with so much room in its row, whose book is b
  pub record Keeps (room : ℕ) (b : Book M) (s : State K) : Type 0 where
    pub good : Good s
    pub long : length s.row ≡ room
    pub entered : book s ≡ b
