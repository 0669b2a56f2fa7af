-- What fixes the rows of values and derivatives, without the order in which they are worked out. Assumes nothing.
use Rattle.std.specs.Prelude.{◌≡◌, ℕ, ◌+◌, ◌-◌, ◌<◌, ◌≤◌, List, [], ◌∷◌, ◌++◌, length, take}
use Rattle.kind.specs.Kinds.{Operations}
use Rattle.tape.specs.declared.lines.Line.{Line}
use Rattle.tape.specs.Rows.{at, grow}
use Rattle.tape.specs.Tapes.{Tape, Valid, line, registers}

module _ {M : Type 0} (o : Operations M) (rule : (ℕ → M) → Line → M) where
  -- a row that begins so, and in which each line's entry is what the rule says of the whole row
  pub record Consistent (t : Tape) (start row : List M) : Type 0 where
    pub long : length row ≡ registers t
    pub begins : take t.controls row ≡ start
    pub each : (j : ℕ) → j < length t.lines → at o row (t.controls + j) ≡ rule (at o row) (line t j)

  abbrev pub row_by : List M → List Line → List M
  row_by start lines = grow (λ l row. rule (at o row) l) start lines

  -- the row of a tape is consistent, and it is the only one; a line more adds an entry; later lines do not change earlier entries
  pub record Determined : Type 0 where
    pub consistent : (t : Tape) → Valid t → (start : List M) → length start ≡ t.controls → Consistent t start (row_by start t.lines)
    pub only : (t : Tape) → Valid t → (start row : List M) → Consistent t start row → row ≡ row_by start t.lines
    pub extended : (start : List M) (lines : List Line) (l : Line) → row_by start (lines ++ (l ∷ [])) ≡ row_by start lines ++ (rule (at o (row_by start lines)) l ∷ [])
    pub earlier : (start : List M) (lines : List Line) (k : ℕ) → length start ≤ k → take k (row_by start lines) ≡ row_by start (take (k - length start) lines)
