use Rattle.std.proofs.Common.{◌++◌, ap, ◌∙◌, arith}
use Rattle.packed.specs.Bits.{bits}
use Rattle.packed.proofs.Numbers.{length_bits}
use Rattle.packed.proofs.Encoding.{puts_then, puts_as}
use Rattle.packed.proofs.cursors.Cursor.put_line.Goals as goal

pub put_bits-requires-2 : goal.put_bits-requires-2
put_bits-requires-2 c =
    let three = length_bits 3 c.from.result in
    let count = c.put_bits.ensures.count in
    record { narrow = omega arith; small = c.line_parts-kind.ensures.small; room = omega arith }

pub returns : goal.returns
returns c =
    let line = ap (λ kind. bits 3 kind ++ bits 32 c.line_parts-kind.result.1) c.from.ensures ∙ c.line_parts-kind.ensures.bits in
    puts_as _ _ _ _ _ _ line (puts_then _ _ _ _ _ _ _ _ c.put_bits.ensures c.put_bits-2.ensures)
