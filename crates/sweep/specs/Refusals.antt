-- Why a query is declined: there is no register r, or else a row is too short. A working row is full when it has an entry for
-- each register; rows of controls, directions and bends need one for each control. Assumes nothing.
use Rattle.std.specs.Prelude.{ℕ, ◌||◌, Option, nat_lt}
use Rattle.tape.specs.Refusals.{Notice, refuse_query}
use Rattle.tape.specs.Tapes.{Tape, registers}

abbrev pub refuse_value : Tape → (controls row r : ℕ) → Option Notice
refuse_value t controls row r = refuse_query t (nat_lt controls t.controls || nat_lt row (registers t)) r

abbrev pub refuse_slope : Tape → (controls direction row r : ℕ) → Option Notice
refuse_slope t controls direction row r = refuse_query t (nat_lt controls t.controls || (nat_lt direction t.controls || nat_lt row (registers t))) r

abbrev pub refuse_backward : Tape → (values adjoint r : ℕ) → Option Notice
refuse_backward t values adjoint r = refuse_query t (nat_lt values (registers t) || nat_lt adjoint (registers t)) r

abbrev pub refuse_gradient : Tape → (controls row adjoint r : ℕ) → Option Notice
refuse_gradient t controls row adjoint r = refuse_query t (nat_lt controls t.controls || (nat_lt row (registers t) || nat_lt adjoint (registers t))) r

abbrev pub refuse_bend : Tape → (controls direction row adjoint out r : ℕ) → Option Notice
refuse_bend t controls direction row adjoint out r =
    refuse_query t (nat_lt controls t.controls || (nat_lt direction t.controls || (nat_lt out t.controls || (nat_lt row (registers t) || nat_lt adjoint (registers t))))) r
