-- What a session's gradient does and answers. Assumes nothing.
use Rattle.std.specs.Prelude.{◌≡◌, ℕ, List, map, length, Result, slice_index_or}
use Rattle.kind.specs.Kinds.{Operations}
use Rattle.tape.specs.declared.refusals.Refusal.{Refusal}
use Rattle.tape.specs.declared.tables.Table.{Table}
use Rattle.tape.specs.Marks.{Recomputed}
use Rattle.tape.specs.Refusals.{Answered}
use Rattle.tape.specs.Tables.{table_tape}
use Rattle.sweep.specs.Refusals.{refuse_backward}
use Rattle.sweep.specs.Reverse.{Walked}
use Rattle.session.specs.declared.answers.Graded.{Graded}
use Rattle.session.specs.States.{State, WasAsked}

module _ {K M : Type 0} (o : Operations M) (means : K → M) where
  -- the marked lines at or below register k are worked out, the value read, and the row walked back over as it then stands
  pub record Regraded (old : Table) (k : ℕ) (row row' before after : List K) (new : Table) (answer : Graded K) : Type 0 where
    pub recomputed : Recomputed o means old k row row' new answer.worked
    pub entry : answer.value ≡ slice_index_or row' k answer.value
    pub walked : Walked o means (table_tape old) (map means row') k before after answer.operations

  -- the value as a value query answers it, then the walk over the row as it stands after that
  pub record WasGraded (s : State K) (k : ℕ) (old : List K) (answer : Graded K) (s' : State K) (new : List K) : Type 0 where
    pub asked : WasAsked o means s k answer.value answer.worked s'
    pub walked : Walked o means s.tape (map means s'.row) k old new answer.operations

  abbrev pub Grades : State K → ℕ → List K → Result (Graded K) Refusal → State K → List K → Type 0
  Grades s k old r s' new = Answered (refuse_backward s.tape (length s.row) (length old) k) r ((s' ≡ s) × (new ≡ old)) (λ answer. WasGraded s k old answer s' new)
