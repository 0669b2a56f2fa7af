-- Which call of a session is declined, by its tape and the lengths of the rows. Assumes nothing.
use Rattle.std.specs.Prelude.{ℕ, ◌||◌, None, Option, nat_le, nat_lt}
use Rattle.tape.specs.declared.lines.Line.{Line}
use Rattle.tape.specs.Marks.{refuse_register}
use Rattle.tape.specs.Refusals.{Notice, plain, naming, cause, refuse_append, refuse_replace, refuse_remove}
use Rattle.tape.specs.Tapes.{Tape, registers}

-- opened with so many controls, and so many numbers in the rest row and the register row
abbrev pub refuse_open : (controls rest room : ℕ) → Option Notice
refuse_open controls rest room = cause (nat_lt controls 1 || nat_lt 128 controls) (plain 1) (cause (nat_lt rest controls || nat_lt room controls) (plain 2) None)

-- below, a session has the tape t and a register row of so much room

abbrev pub refuse_set : (t : Tape) (room i : ℕ) → Option Notice
refuse_set t room i = cause (nat_le t.controls i) (naming 5 i) (cause (nat_lt room (registers t)) (plain 2) None)

abbrev pub refuse_add : (t : Tape) (room : ℕ) → Line → Option Notice
refuse_add t room l = cause (nat_le room (registers t)) (plain 3) (refuse_append t l)

abbrev pub refuse_change : (t : Tape) (k : ℕ) → Line → Option Notice
refuse_change t k l = refuse_replace t k l

abbrev pub refuse_drop : (t : Tape) → Option Notice
refuse_drop t = refuse_remove t

abbrev pub refuse_value : (t : Tape) (room k : ℕ) → Option Notice
refuse_value t room k = refuse_register t room k

-- the controls are copied to a row of `out` numbers
abbrev pub refuse_show : (t : Tape) (room out : ℕ) → Option Notice
refuse_show t room out = cause (nat_lt room (registers t) || nat_lt out t.controls) (plain 2) None
