use Rattle.std.proofs.Common.{◌≡◌, ◌+◌, ◌*◌, ◌%◌, ◌^◌, ◌<◌, ap, ◌∙◌, ap₂, arith}
use lib.Bits.{bit_or}
use mir.Facts.{Fits-lt-pow}
use Rattle.packed.specs.Bits.{bits}
use Rattle.packed.proofs.Numbers.{bits_join}
use Rattle.packed.proofs.Encoding.{shifted_in, shifted_lt}
use Rattle.packed.proofs.writing.two_registers.Goals as goal

pub returns : goal.returns
returns c =
    let a = c.args.a in
    let b = c.args.b in
    let fa : a < 2 ^ 16 = Fits-lt-pow c.ranges.a in
    let fb : b < 2 ^ 16 = Fits-lt-pow c.ranges.b in
    let is : bit_or (c.from.result * 2 ^ 16 % 2 ^ 64) c.from-2.result ≡ a * 2 ^ 16 + b
    = ap₂ (λ x y. bit_or (x * 2 ^ 16 % 2 ^ 64) y) c.from.ensures c.from-2.ensures ∙ shifted_in 16 a 16 b fa fb (omega arith) in
    record { bits = ap (bits 32) is ∙ bits_join 16 16 a b fb; small = rw is (shifted_lt 16 a 16 b fa fb) }
