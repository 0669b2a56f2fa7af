use Rattle.std.proofs.Common.{◌≡◌}
use Rattle.packed.specs.Looks.{fault_of}
use Rattle.packed.proofs.Looking.{lines_from}
use Rattle.packed.proofs.looks.check.Given as goal

-- the lines from j on decide
abbrev pub invariant-loop-j : goal.invariant-loop-j
invariant-loop-j l = fault_of l.bytes ≡ lines_from l.bytes l.controls l.j l.lines
