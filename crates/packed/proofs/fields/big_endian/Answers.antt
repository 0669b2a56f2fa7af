use Rattle.std.proofs.Common.{ap, ◌∙◌, refl, arith}
use mir.Facts.{Fits-lt-pow}
use lib.Bits.{bit_or}
use Rattle.packed.specs.Bits.{number, spread}
use Rattle.packed.proofs.FieldLaws.{byte_more}
use Rattle.packed.proofs.fields.big_endian.Goals as goal

pub loop-byte-init : goal.loop-byte-init
unfolding number spread
loop-byte-init c = refl

pub loop-byte-preserved : goal.loop-byte-preserved
loop-byte-preserved c =
    let bytes = c.args.bytes.now in
    let i = c.loop-byte.byte-index in
    ap (bit_or _) c.from.ensures ∙ byte_more bytes i c.loop-byte.word c.loop-byte-test.true (omega arith) (Fits-lt-pow (c.type_inv.bytes i)) c.loop-byte.invariant
