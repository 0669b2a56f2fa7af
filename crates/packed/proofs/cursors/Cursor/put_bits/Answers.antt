use Rattle.std.proofs.Common.{◌≡◌, ◌+◌, ◌-◌, ◌*◌, ◌/◌, ◌%◌, ◌^◌, length, take, drop, ap, ◌∙◌, ap₂, arith, length-drop, length-take}
use Rattle.packed.specs.Bits.{bits}
use Rattle.packed.proofs.Encoding.{puts_word, shifted_in, masked}
use Rattle.packed.proofs.cursors.Cursor.put_bits.Goals as goal

pub returns : goal.returns
returns c =
    let p = c.args.self.now in
    let width = c.args.width in
    let value = c.args.value in
    let size = p.held + width in
    let k = p.at + size / 8 - p.at in
    let held = size % 8 in
    let is = shifted_in p.held p.word width value p.small c.requires.small (omega (arith, p.few)) in
    let long : length (take k (drop p.at c.args.buf.now)) ≡ k = simp (length-take, length-drop) (omega arith) in
    puts_word c.args.buf.now c.put_bytes.new.bytes p _ k width value c.requires.small (omega arith) (omega arith) (omega arith) (omega arith)
    (c.put_bytes.ensures ∙ ap₂ (λ m n. bits (8 * m) (n / 2 ^ held)) long is) (masked held _ (omega arith) ∙ ap (λ n. n % 2 ^ held) is)
