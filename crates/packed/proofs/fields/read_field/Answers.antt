use Rattle.std.proofs.Common.{◌+◌, ◌/◌, ◌∙◌, arith}
use Rattle.packed.proofs.FieldLaws.{field_bytes, field_cut, field_lt}
use Rattle.packed.proofs.fields.read_field.Goals as goal

pub returns : goal.returns
returns c =
    let bytes = c.args.bytes.now in
    let at = c.args.at in
    let width = c.args.width in
    let end = (at + width + 7) / 8 in
    let is = field_cut bytes at width (at / 8) end c.big_endian-word.result (omega arith) (omega arith) (omega arith) (omega arith) c.requires.narrow
    (c.big_endian-word.ensures ∙ field_bytes bytes (at / 8) end) in
    record { value = is; small = rw is (field_lt bytes at width c.requires.within) }
