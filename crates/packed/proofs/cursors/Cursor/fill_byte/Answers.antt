use Rattle.std.proofs.Common.{◌-◌, ◌%◌, arith}
use Rattle.packed.proofs.Numbers.{length_bits}
use Rattle.packed.proofs.cursors.Cursor.fill_byte.Goals as goal

pub returns-clause-whole : goal.returns-clause-whole
returns-clause-whole c =
    let cursor = c.args.self.now in
    let zeros = length_bits ((8 - cursor.held) % 8) 0 in
    omega (arith, c.put_bits.ensures.count, c.put_bits.new.self.few, cursor.few)
