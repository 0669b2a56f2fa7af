use Rattle.std.proofs.Common.{take}
use Rattle.std.specs.List.{flat_map}
use Rattle.packed.specs.Formats.{line_bits}
use Rattle.packed.specs.Writing.{Puts}
use Rattle.packed.proofs.saving.save.Given as goal

-- the lines before j are written
abbrev pub invariant-loop-j : goal.invariant-loop-j
invariant-loop-j g l = Puts l.initial.buf l.initial.cursor l.buf l.cursor (flat_map line_bits (take l.j (g.S.Sheet.tape l.sheet).lines))
