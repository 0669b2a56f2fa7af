-- The marks of stale lines: what spreads them, what clears them, and which is the lowest. Assumes nothing.
use Rattle.std.specs.Prelude.{◌≡◌, ℕ, ◌+◌, ◌-◌, ◌<◌, ◌≤◌, Bool, true, false, ◌&&◌, ◌||◌, List, map, length, take, Some, None, count_by, Option, ◌==◌, nat_le, nat_lt, slice_index_or}
use Rattle.kind.specs.Kinds.{Operations}
use Rattle.tape.specs.declared.tables.Table.{Table}
use Rattle.tape.specs.Lines.{reads}
use Rattle.tape.specs.Refusals.{Notice, refuse_query}
use Rattle.tape.specs.Rows.{at}
use Rattle.tape.specs.Tables.{table_tape}
use Rattle.tape.specs.Tapes.{Tape, registers, line}
use Rattle.tape.specs.Values.{applied}

-- line j is marked
abbrev pub mark : List Bool → ℕ → Bool
mark marks j = slice_index_or marks j false

-- register k is that of a marked line
abbrev pub stale_register : (controls : ℕ) → List Bool → ℕ → Bool
stale_register controls marks k = nat_le controls k && mark marks (k - controls)

-- register k is q, or that of a marked line
abbrev pub touched : (controls q : ℕ) → List Bool → ℕ → Bool
touched controls q marks k = k == q || stale_register controls marks k

-- marks' are the marks, spread from register q: a line is marked if it was, or if it reads q or a marked line
pub record Spread (t : Tape) (q : ℕ) (marks marks' : List Bool) : Type 0 where
  pub long : length marks' ≡ length marks
  pub each : (j : ℕ) → j < length t.lines → mark marks' j ≡ (mark marks j || reads (line t j) (touched t.controls q marks'))
  pub past : (j : ℕ) → length t.lines ≤ j → mark marks' j ≡ mark marks j

-- how many lines stand at or below register r
abbrev pub count_to : Tape → ℕ → ℕ
count_to t r = r + 1 - t.controls

-- register k is that of no marked line among the first m
abbrev pub NotStale : Tape → (m : ℕ) → List Bool → ℕ → Type 0
NotStale t m marks k = (j : ℕ) → j < m → k ≡ t.controls + j → mark marks j ≡ false

-- each marked line among the first m is worked out from the row after, and its mark cleared; nothing else changes
pub record Swept {K M : Type 0} (o : Operations M) (means : K → M) (t : Tape) (m : ℕ) (row : List K) (marks : List Bool) (row' : List K) (marks' : List Bool) (worked : ℕ) : Type 0 where
  pub done : (j : ℕ) → j < m → mark marks j ≡ true → at o (map means row') (t.controls + j) ≡ applied o (at o (map means row')) (line t j)
  pub kept : (k : ℕ) (d : K) → NotStale t m marks k → slice_index_or row' k d ≡ slice_index_or row k d
  pub room : length row' ≡ length row
  pub long : length marks' ≡ length marks
  pub clear : (j : ℕ) → j < m → mark marks' j ≡ false
  pub above : (j : ℕ) → m ≤ j → mark marks' j ≡ mark marks j
  pub count : worked ≡ count_by (λ b. b) (take m marks)

-- the marked lines at or below register r are worked out
pub record Recomputed {K M : Type 0} (o : Operations M) (means : K → M) (old : Table) (r : ℕ) (row row' : List K) (new : Table) (worked : ℕ) : Type 0 where
  pub tape : table_tape new ≡ table_tape old
  pub swept : Swept o means (table_tape old) (count_to (table_tape old) r) row old.stale row' new.stale worked

-- the register of the lowest marked line, if a line is marked
abbrev pub Waiting : Tape → List Bool → Option ℕ → Type 0
Waiting t marks None = (j : ℕ) → mark marks j ≡ false
Waiting t marks (Some k) = (j : ℕ) × (k ≡ t.controls + j) × (j < length t.lines) × (mark marks j ≡ true) × ((i : ℕ) → i < j → mark marks i ≡ false)

-- register r is asked for, of a tape whose registers have a row of so much room
abbrev pub refuse_register : Tape → (room r : ℕ) → Option Notice
refuse_register t room r = refuse_query t (nat_lt room (registers t)) r
