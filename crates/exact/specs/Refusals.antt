-- Why a call about whole numbers is declined. Assumes nothing.
use Rattle.std.specs.Prelude.{ℕ, ◌^◌, Bool, cond, ◌||◌, leb, List, [], ◌∷◌, Some, None, Option, Result, nat_le, nat_lt}
use Rattle.kind.specs.Capped.{Capped}
use Rattle.kind.specs.Dual.{Dual}
use Rattle.tape.specs.declared.refusals.Refusal.{Refusal}
use Rattle.tape.specs.Refusals.{Answered, Notice, cause, naming, plain}
use Rattle.tape.specs.Tapes.{Tape, registers}

-- the first of a list that passes the test
abbrev pub first : (ℕ → Bool) → List ℕ → Option ℕ
first test [] = None
first test (r ∷ rs) = cond (test r) (Some r) (first test rs)

-- with this number it is named; where there is none, the next cause decides
abbrev pub refuse_first : (number : ℕ) → Option ℕ → Option Notice → Option Notice
refuse_first number (Some r) next = Some (naming number r)
refuse_first number None next = next

-- one of two sizes is 2^63 or more
abbrev pub large : Dual Capped → Bool
large s = nat_le (2 ^ 63) s.value.number || nat_le (2 ^ 63) s.tangent.number

-- the lengths of the four rows that a call is lent
pub record Lengths : Type 0 where
  pub controls : ℕ
  pub direction : ℕ
  pub pairs : ℕ
  pub sizes : ℕ

abbrev pub too_short : Tape → Lengths → Bool
too_short t rows = (nat_lt rows.controls t.controls || nat_lt rows.direction t.controls) || (nat_lt rows.pairs (registers t) || nat_lt rows.sizes (registers t))

-- before any work: a register of the list that there is not, else a row that is too short
abbrev pub refuse_registers : Tape → Lengths → (tests : List ℕ) → Option Notice
refuse_registers t rows tests = refuse_first 5 (first (leb (registers t)) tests) (cause (too_short t rows) (plain 2) None)

-- after it: a register of the list with a size that is too large
abbrev pub refuse_sizes : (sizes : ℕ → Dual Capped) → (tests : List ℕ) → Option Notice
refuse_sizes sizes tests = refuse_first 10 (first (λ r. large (sizes r)) tests) None

-- A call that is declined before its work leaves all the same; one that is declined after it has done the work.
abbrev pub AnsweredAfter : {R : Type 0} → (before after : Option Notice) → Result R Refusal → (same worked : Type 0) → (R → Type 0) → Type 0
AnsweredAfter (Some why) after r same worked done = Answered (Some why) r same done
AnsweredAfter None after r same worked done = worked × Answered after r (Unit {0}) done
