use Rattle.std.proofs.Common.{◌≡◌, ◌+◌, ◌-◌, ◌%◌, ◌<◌, ◌≤◌, ◌++◌, length, take, None, refl, ap, ◌∙◌, ap₂, arith}
use mir.Facts.{Fits-lt-pow}
use Rattle.std.specs.List.{flat_map}
use Rattle.std.proofs.lemmas.List.{take_all, append_assoc}
use Rattle.std.proofs.lemmas.Bool.Decides.{nat_tests}
use Rattle.tape.specs.Refusals.{refuse_line}
use Rattle.tape.specs.Tapes.{nth}
use Rattle.tape.proofs.Answering.{accepted, not_declined}
use Rattle.packed.specs.Bits.{bits}
use Rattle.packed.specs.Writing.{refuse_save}
use Rattle.packed.specs.Formats.{line_bits, tape_bits}
use Rattle.packed.proofs.Numbers.{length_bits}
use Rattle.packed.proofs.Encoding.{puts_then, puts_as, puts_file, lines_end, lines_more}
use Rattle.packed.proofs.saving.save.Goals as goal

pub put_bits-requires-2 : goal.put_bits-requires-2
put_bits-requires-2 g c =
    let few = (g.S.Sheet.keeps c.args.sheet.now).few_lines in
    let count = c.put_bits.ensures.count in
    let eight = length_bits 8 c.controls-controls.result in
    record { narrow = omega arith; small = omega arith; room = omega arith }

pub put_line-requires : goal.put_line-requires
put_line-requires g c =
    let few = (g.S.Sheet.keeps c.args.sheet.now).few_lines in
    let ends = lines_end _ _ _ _ _ _ _ _ _ _ c.loop-j.j _ refl refl (omega arith) c.put_bits.ensures c.put_bits-2.ensures c.loop-j.invariant in
    omega arith

pub loop-j-preserved : goal.loop-j-preserved
loop-j-preserved g c =
    let t = g.S.Sheet.tape c.args.sheet.now in
    let j = c.loop-j.j in
    let line = c.unwrap.result in
    let got = not_declined (refuse_line t j) line (Unit {0}) (λ l. l ≡ nth t.lines j) (rw c.unwrap.ensures at c.line.ensures) in
    let there : j < length t.lines = omega arith in
    puts_as c.put_bits-2.new.buf c.put_line.new.buf c.put_bits-2.new.self c.put_line.new.self
    (flat_map line_bits (take j t.lines) ++ line_bits line) (flat_map line_bits (take (j + 1) t.lines))
    (lines_more t j line there got.1)
    (puts_then c.put_bits-2.new.buf c.loop-j.buf c.put_line.new.buf c.put_bits-2.new.self c.loop-j.cursor c.put_line.new.self
    (flat_map line_bits (take j t.lines)) (line_bits line) c.loop-j.invariant c.put_line.ensures)

pub fill_byte-requires : goal.fill_byte-requires
fill_byte-requires g c =
    let few = (g.S.Sheet.keeps c.args.sheet.now).few_lines in
    let ends = lines_end _ _ _ _ _ _ _ _ _ _ c.loop-j.j _ refl refl (omega arith) c.put_bits.ensures c.put_bits-2.ensures c.loop-j.invariant in
    omega arith

pub returns : goal.returns
returns g c =
    let t = g.S.Sheet.tape c.args.sheet.now in
    let k = (8 - c.loop-j.cursor.held) % 8 in
    let whole : flat_map line_bits (take c.loop-j.j t.lines) ≡ flat_map line_bits t.lines = ap (flat_map line_bits) (take_all c.loop-j.j t.lines (omega arith)) in
    let ends = lines_end _ _ _ _ _ _ _ _ _ _ c.loop-j.j _ refl refl (omega arith) c.put_bits.ensures c.put_bits-2.ensures c.loop-j.invariant in
    let last = c.fill_byte.ensures.zeros.count in
    let zeros = length_bits k 0 in
    let held = c.loop-j.cursor.few in
    let held_last = c.fill_byte.new.self.few in
    let n = c.controls-controls.result in
    let m = c.count-count.result in
    let lines = flat_map line_bits t.lines in
    let head = puts_then _ _ _ _ _ _ _ _ c.put_bits.ensures c.put_bits-2.ensures in
    let tape = puts_then _ _ _ _ _ _ _ _ head (puts_as _ _ _ _ _ _ whole c.loop-j.invariant) in
    let file = puts_then _ _ _ _ _ _ _ _ tape c.fill_byte.ensures.zeros in
    let is : ((bits 8 n ++ bits 11 m) ++ lines) ++ bits k 0 ≡ tape_bits t ++ bits k 0
    = ap (λ bs. bs ++ bits k 0) (append_assoc (bits 8 n) (bits 11 m) lines ∙ ap₂ (λ x y. bits 8 x ++ (bits 11 y ++ lines)) c.controls-controls.ensures c.count-count.ensures) in
    let fits : c.fill_byte.new.self.at ≤ length c.fill_byte.new.buf = omega arith in
    let free : refuse_save t (length c.args.buf.now) ≡ None = grind (arith, nat_tests) in
    accepted _ _ _ _ free (record {
      long = omega arith;
      file = puts_file t _ _ _ _ k refl refl (omega arith) (omega arith) fits (λ i. Fits-lt-pow (c.type_inv.buf i)) (puts_as _ _ _ _ _ _ is file);
      rest = file.rest;
    })
