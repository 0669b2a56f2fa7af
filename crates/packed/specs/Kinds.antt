-- The numbers of the kinds of lines. Assumes nothing.
use Rattle.std.specs.Prelude.{◌≡◌, ℕ, ◌<◌, Result, MatchResult}
use Rattle.packed.specs.declared.kinds.LineKind.{LineKind}
use Rattle.packed.specs.declared.kinds.LineKind.TheVariants.{Constant, Add, Subtract, Multiply, Opposite}
use Rattle.packed.specs.declared.faults.LineFault.{LineFault}
use Rattle.packed.specs.declared.faults.LineFault.TheVariants.{Kind}

abbrev pub code_of : LineKind → ℕ
code_of Constant = 0
code_of Add = 1
code_of Subtract = 2
code_of Multiply = 3
code_of Opposite = 4

-- the kind with this number, or an error where no kind has it
abbrev pub Decodes : ℕ → Result LineKind LineFault → Type 0
Decodes code r = MatchResult r (λ kind. code_of kind ≡ code) (λ e. (e ≡ Kind) × (4 < code))
