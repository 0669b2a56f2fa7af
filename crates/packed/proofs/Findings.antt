-- What is told of a fault fixes it. Assumes nothing.
use Rattle.std.proofs.Common.{◌≡◌, ℕ, cond, eqb, Some, None, Option, sym, refl, ap, ◌∙◌}
use Rattle.packed.specs.declared.faults.FileFault.{FileFault}
use Rattle.packed.specs.declared.faults.FileFault.TheVariants.{Controls, Lines, Short, Surplus, Line}
use Rattle.packed.specs.declared.faults.LineFault.TheVariants.{Kind, Register, Spare}
use Rattle.packed.specs.Faults.{Finding, finding}

-- the fault with this line, this register, this number and this bit
abbrev told : Option ℕ → Option ℕ → (number bit : ℕ) → FileFault
told None named number bit = cond (eqb number 1) Controls (cond (eqb number 3) Lines (cond (eqb number 7) (Short bit) (Surplus bit)))
told (Some j) (Some r) number bit = Line j (Register r) bit
told (Some j) None number bit = Line j (cond (eqb number 4) Kind Spare) bit

abbrev fault_told : Finding → FileFault
fault_told f = told f.line f.named f.number f.bit

told_back : (e : FileFault) → fault_told (finding e) ≡ e
told_back Controls = refl
told_back Lines = refl
told_back (Short bit) = refl
told_back (Surplus bit) = refl
told_back (Line j Kind bit) = refl
told_back (Line j (Register r) bit) = refl
told_back (Line j Spare bit) = refl

pub one_fault : (e f : FileFault) → finding e ≡ finding f → e ≡ f
one_fault e f same = sym (told_back e) ∙ ap fault_told same ∙ told_back f
