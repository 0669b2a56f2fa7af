-- Tapes and the rules that each keeps. Assumes nothing.
use Rattle.std.specs.Prelude.{ℕ, ◌+◌, ◌<◌, ◌≤◌, List, length, pos, negsuc, ◌≤ℤ◌, slice_index_or}
use Rattle.tape.specs.declared.lines.Line.{Line}
use Rattle.tape.specs.declared.lines.Line.TheVariants.{Constant}
use Rattle.tape.specs.Lines.{Below, constant}

-- The controls are the registers from 0 on, and line j is the register `controls + j`.
pub record Tape : Type 0 where
  pub controls : ℕ
  pub lines : List Line

abbrev pub registers : Tape → ℕ
registers t = t.controls + length t.lines

-- line j of a list, in which it stands
abbrev pub nth : List Line → ℕ → Line
nth lines j = slice_index_or lines j (Constant (pos 0))

abbrev pub line : Tape → ℕ → Line
line t j = nth t.lines j

-- each line reads only registers below its own
abbrev pub ReadsBelow : ℕ → List Line → Type 0
ReadsBelow controls lines = (j : ℕ) → j < length lines → Below (controls + j) (nth lines j)

-- the line's constant is a signed number of 32 bits
abbrev pub ConstantFits : Line → Type 0
ConstantFits l = (negsuc 2147483647 ≤ℤ constant l) × (constant l ≤ℤ pos 2147483647)

abbrev pub ConstantsFit : List Line → Type 0
ConstantsFit lines = (j : ℕ) → j < length lines → ConstantFits (nth lines j)

pub record Valid (t : Tape) : Type 0 where
  pub some_control : 1 ≤ t.controls
  pub few_controls : t.controls ≤ 128
  pub few_lines : length t.lines ≤ 1024
  pub below : ReadsBelow t.controls t.lines
  pub fit : ConstantsFit t.lines
