-- The book of a run: the controls and the tape that its accepted edits leave, by the calls' arguments alone. Assumes nothing.
use Rattle.std.specs.Prelude.{ℕ, List, [], map, take, Some, None, fold, Option, slice_set}
use Rattle.kind.specs.Kinds.{Operations}
use Rattle.tape.specs.Refusals.{Notice}
use Rattle.tape.specs.Rows.{at}
use Rattle.tape.specs.Tapes.{Tape}
use Rattle.tape.specs.Values.{values}
use Rattle.session.specs.declared.calls.Call.{Call}
use Rattle.session.specs.declared.calls.Call.TheVariants.{Set, Add, Change, Drop, Save, Value, Gradient, Slope, Bend, Waiting, Controls}
use Rattle.session.specs.Refusals.{refuse_set, refuse_add, refuse_change, refuse_drop}
use Rattle.session.specs.States.{with_line, with_line_at, without_last}

-- A tape, and a number for each of its controls.
pub record Book (M : Type 0) : Type 0 where
  pub tape : Tape
  pub controls : List M

-- what stands where there is a cause to decline, and what is done where there is none
abbrev pub unless : {X : Type 0} → Option Notice → X → X → X
unless (Some why) stands done = stands
unless None stands done = done

module _ {K M : Type 0} (means : K → M) where
  -- the book at the opening
  abbrev pub blank : (controls : ℕ) (rest : List K) → Book M
  blank n rest = record { tape = record { controls = n; lines = [] }; controls = map means (take n rest) }

  -- a call is entered, with so much room in the register row
  abbrev pub feed : (room : ℕ) → Book M → Call K → Book M
  feed room b (Set i x) = unless (refuse_set b.tape room i) b (record { tape = b.tape; controls = slice_set b.controls i (means x) })
  feed room b (Add l) = unless (refuse_add b.tape room l) b (record { tape = with_line b.tape l; controls = b.controls })
  feed room b (Change k l) = unless (refuse_change b.tape k l) b (record { tape = with_line_at b.tape k l; controls = b.controls })
  feed room b Drop = unless (refuse_drop b.tape) b (record { tape = without_last b.tape; controls = b.controls })
  feed room b Save = b
  feed room b (Value k) = b
  feed room b (Gradient k) = b
  feed room b (Slope k d) = b
  feed room b (Bend k d) = b
  feed room b Waiting = b
  feed room b Controls = b

  -- the book after a run
  abbrev pub kept : (controls : ℕ) (rest : List K) (room : ℕ) → List (Call K) → Book M
  kept n rest room calls = fold (feed room) (blank n rest) calls

-- register k by the definitions: the straight-line value of the book's tape at its controls
abbrev pub worth : {M : Type 0} → Operations M → Book M → ℕ → M
worth o b k = at o (values o b.controls b.tape.lines) k
