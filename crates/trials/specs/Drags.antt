-- A session of three controls and their product in two lines: a control is set and a register asked for, twice. Assumes nothing.
use Rattle.std.specs.Prelude.{◌≡◌, ℕ, ◌≤◌, List, [], ◌∷◌, length, take, pos, Ok, Err, Result}
use Rattle.kind.specs.declared.wrapping.Ticks.{Ticks}
use Rattle.kind.specs.Wrapping.{tick, tick_operations}
use Rattle.tape.specs.declared.lines.Line.TheVariants.{Multiply}
use Rattle.tape.specs.declared.refusals.Refusal.{Refusal}
use Rattle.session.specs.declared.sessions.Answer.{Answer}
use Rattle.session.specs.States.{Adds, Asks, Opened, Sets, State}
use Rattle.trials.specs.Tapes.{ticks}

-- Any states and answers that the calls allow, one call after another, from any rows.
pub record Drag : Type 0 where
  -- opened at 2, 3 and 4, with room for five registers
  pub rest : List Ticks
  pub lent : List Ticks
  pub pose : take 3 rest ≡ ticks 2 ∷ ticks 3 ∷ ticks 4 ∷ []
  pub room : 5 ≤ length lent
  pub opened : State Ticks
  pub opens : Opened 3 rest lent opened
  -- both lines are added
  pub first_line : Result ℕ Refusal
  pub second_line : Result ℕ Refusal
  pub begun : State Ticks
  pub built : State Ticks
  pub begins : Adds opened (Multiply 0 1) first_line begun
  pub builds : Adds begun (Multiply 3 2) second_line built
  -- register 4 is asked for
  pub first_answer : Result (Answer Ticks) Refusal
  pub seen : State Ticks
  pub sees : Asks tick_operations tick built 4 first_answer seen
  -- control 2 is set to 7, and register 4 asked for
  pub setting : Result (Unit {0}) Refusal
  pub moved : State Ticks
  pub moves : Sets seen 2 (ticks 7) setting moved
  pub second_answer : Result (Answer Ticks) Refusal
  pub seen_again : State Ticks
  pub sees_again : Asks tick_operations tick moved 4 second_answer seen_again
  -- control 0 is set to 5, and register 3 asked for
  pub setting_again : Result (Unit {0}) Refusal
  pub moved_again : State Ticks
  pub moves_again : Sets seen_again 0 (ticks 5) setting_again moved_again
  pub third_answer : Result (Answer Ticks) Refusal
  pub left : State Ticks
  pub sees_part : Asks tick_operations tick moved_again 3 third_answer left

-- accepted: the answer means n, and so many lines were worked out
abbrev pub Answers : Result (Answer Ticks) Refusal → (n worked : ℕ) → Type 0
Answers (Ok a) n worked = (tick a.value ≡ tick_operations.image (pos n)) × (a.worked ≡ worked)
Answers (Err e) n worked = ⊥
