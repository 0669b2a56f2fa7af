-- A session's state, and what each call does to it. Assumes nothing.
use Rattle.std.specs.Prelude.{◌≡◌, ℕ, ◌-◌, Bool, true, false, List, [], ◌∷◌, ◌++◌, length, take, replicate, Option, Result, slice_index_or, slice_set}
use Rattle.kind.specs.Kinds.{Operations}
use Rattle.tape.specs.declared.lines.Line.{Line}
use Rattle.tape.specs.declared.refusals.Refusal.{Refusal}
use Rattle.tape.specs.Marks.{Spread, Swept, Waiting, count_to}
use Rattle.tape.specs.Refusals.{Answered}
use Rattle.tape.specs.Tables.{table_tape}
use Rattle.tape.specs.Tapes.{Tape, registers}
use Rattle.session.specs.declared.sessions.Answer.{Answer}
use Rattle.session.specs.declared.sessions.Session.{Session}
use Rattle.session.specs.Refusals.{refuse_set, refuse_add, refuse_change, refuse_drop, refuse_value, refuse_show}
use Rattle.session.specs.Rows.{copied}

-- the edits of a tape: a line more, another line at register k, and no last line

abbrev pub with_line : Tape → Line → Tape
with_line t l = record { controls = t.controls; lines = t.lines ++ (l ∷ []) }

abbrev pub with_line_at : Tape → ℕ → Line → Tape
with_line_at t k l = record { controls = t.controls; lines = slice_set t.lines (k - t.controls) l }

abbrev pub without_last : Tape → Tape
without_last t = record { controls = t.controls; lines = take (length t.lines - 1) t.lines }

-- A tape, a number for each register (and perhaps more), and a mark for each line (and clear ones past them).
pub record State (K : Type 0) : Type 0 where
  pub tape : Tape
  pub row : List K
  pub marks : List Bool

module _ {K : Type 0} where
  abbrev pub state : Session K → State K
  state s = record { tape = table_tape s.table; row = s.row.now; marks = s.table.stale }

  -- what each call does

  pub record Opened (controls : ℕ) (rest lent : List K) (s : State K) : Type 0 where
    pub tape : s.tape ≡ record { controls = controls; lines = [] }
    pub row : s.row ≡ copied controls rest lent
    pub marks : s.marks ≡ replicate 1024 false

  pub record WasSet (s : State K) (i : ℕ) (x : K) (s' : State K) : Type 0 where
    pub tape : s'.tape ≡ s.tape
    pub row : s'.row ≡ slice_set s.row i x
    pub marks : Spread s.tape i s.marks s'.marks

  pub record WasAdded (s : State K) (l : Line) (k : ℕ) (s' : State K) : Type 0 where
    pub register : k ≡ registers s.tape
    pub tape : s'.tape ≡ with_line s.tape l
    pub row : s'.row ≡ s.row
    pub marks : s'.marks ≡ slice_set s.marks (length s.tape.lines) true

  pub record WasChanged (s : State K) (k : ℕ) (l : Line) (s' : State K) : Type 0 where
    pub tape : s'.tape ≡ with_line_at s.tape k l
    pub row : s'.row ≡ s.row
    pub marks : Spread (with_line_at s.tape k l) k (slice_set s.marks (k - s.tape.controls) true) s'.marks

  pub record WasDropped (s s' : State K) : Type 0 where
    pub tape : s'.tape ≡ without_last s.tape
    pub row : s'.row ≡ s.row
    pub marks : s'.marks ≡ slice_set s.marks (length s.tape.lines - 1) false

  -- what each call answers, and the state after it

  abbrev pub Sets : State K → ℕ → K → Result (Unit {0}) Refusal → State K → Type 0
  Sets s i x r s' = Answered (refuse_set s.tape (length s.row) i) r (s' ≡ s) (λ _. WasSet s i x s')

  abbrev pub Adds : State K → Line → Result ℕ Refusal → State K → Type 0
  Adds s l r s' = Answered (refuse_add s.tape (length s.row) l) r (s' ≡ s) (λ k. WasAdded s l k s')

  abbrev pub Changes : State K → ℕ → Line → Result (Unit {0}) Refusal → State K → Type 0
  Changes s k l r s' = Answered (refuse_change s.tape k l) r (s' ≡ s) (λ _. WasChanged s k l s')

  abbrev pub Drops : State K → Result (Unit {0}) Refusal → State K → Type 0
  Drops s r s' = Answered (refuse_drop s.tape) r (s' ≡ s) (λ _. WasDropped s s')

  abbrev pub Waits : State K → Option ℕ → Type 0
  Waits s r = Waiting s.tape s.marks r

  abbrev pub Shows : State K → List K → Result (Unit {0}) Refusal → List K → Type 0
  Shows s out r out' = Answered (refuse_show s.tape (length s.row) (length out)) r (out' ≡ out) (λ _. out' ≡ copied s.tape.controls s.row out)

  module _ {M : Type 0} (o : Operations M) (means : K → M) where
    -- the lines at or below register k are worked out
    pub record WasSwept (s : State K) (k worked : ℕ) (s' : State K) : Type 0 where
      pub tape : s'.tape ≡ s.tape
      pub swept : Swept o means s.tape (count_to s.tape k) s.row s.marks s'.row s'.marks worked

    -- and then x is the entry of register k
    pub record WasAsked (s : State K) (k : ℕ) (x : K) (worked : ℕ) (s' : State K) : Type 0 where
      pub after : WasSwept s k worked s'
      pub entry : x ≡ slice_index_or s'.row k x

    abbrev pub Asks : State K → ℕ → Result (Answer K) Refusal → State K → Type 0
    Asks s k r s' = Answered (refuse_value s.tape (length s.row) k) r (s' ≡ s) (λ a. WasAsked s k a.value a.worked s')
