-- What a table means, and what each edit makes of it. Assumes nothing.
use Rattle.std.specs.Prelude.{◌≡◌, ℕ, ◌-◌, ◌≤◌, true, false, [], ◌∷◌, ◌++◌, take, replicate, slice_set}
use Rattle.std.proofs.Common.{sym, subst}
use Rattle.tape.specs.declared.lines.Line.{Line}
use Rattle.tape.specs.declared.tables.Table.{Table}
use Rattle.tape.specs.Tapes.{Tape, Valid}

abbrev pub table_tape : Table → Tape
table_tape t = record { controls = t.controls; lines = take t.count t.lines }

-- its ghost fields are the rules of tapes
pub table_valid : (t : Table) → Valid (table_tape t)
table_valid t = record {
  some_control = t.some;
  few_controls = t.few;
  few_lines = subst (λ k. k ≤ 1024) (sym t.filled) t.room;
  below = t.below;
  fit = t.fit;
}

-- no line, and no mark
pub record Blank (n : ℕ) (new : Table) : Type 0 where
  pub tape : table_tape new ≡ record { controls = n; lines = [] }
  pub marks : new.stale ≡ replicate 1024 false

-- one line more at the end, marked
pub record Appended (old : Table) (l : Line) (new : Table) : Type 0 where
  pub tape : table_tape new ≡ record { controls = old.controls; lines = (table_tape old).lines ++ (l ∷ []) }
  pub marks : new.stale ≡ slice_set old.stale old.count true

-- another line at register k, marked
pub record Replaced (old : Table) (k : ℕ) (l : Line) (new : Table) : Type 0 where
  pub tape : table_tape new ≡ record { controls = old.controls; lines = slice_set (table_tape old).lines (k - old.controls) l }
  pub marks : new.stale ≡ slice_set old.stale (k - old.controls) true

-- the last line and its mark taken off
pub record Removed (old new : Table) : Type 0 where
  pub tape : table_tape new ≡ record { controls = old.controls; lines = take (old.count - 1) (table_tape old).lines }
  pub marks : new.stale ≡ slice_set old.stale (old.count - 1) false
