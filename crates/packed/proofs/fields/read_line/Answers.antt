use Rattle.std.proofs.Common.{◌≡◌, ◌+◌, ◌-◌, ◌*◌, ◌/◌, ◌%◌, ◌^◌, ap, ◌∙◌, arith}
use Rattle.packed.specs.Bits.{field}
use Rattle.packed.proofs.FieldLaws.{field_bytes, field_inside, field_lt}
use Rattle.packed.proofs.fields.read_line.Goals as goal

pub returns-then-from-bytes : goal.returns-then-from-bytes
returns-then-from-bytes c =
    let bytes = c.args.bytes.now in
    let at = c.args.at in
    let first = at / 8 in
    let before = at % 8 in
    let after = 29 - at % 8 in
    let long : 8 * (first + 8 - first) ≡ before + 35 + after = omega arith in
    let start : 8 * first + before ≡ at = omega arith in
    let value =
    ap (λ n. n / 2 ^ after % 34359738368) (c.big_endian.ensures ∙ field_bytes bytes first (first + 8) ∙ ap (field bytes (8 * first)) long)
    ∙ field_inside bytes (8 * first) before 35 after (omega arith)
    ∙ ap (λ k. field bytes k 35) start in
    record { value = value; small = rw value (field_lt bytes at 35 c.requires.within) }
