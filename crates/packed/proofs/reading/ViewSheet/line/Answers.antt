use Rattle.std.proofs.Common.{◌≡◌, None, sym, ◌∙◌, arith}
use Rattle.std.proofs.lemmas.Bool.Decides.{nat_tests}
use Rattle.tape.specs.Refusals.{refuse_line}
use Rattle.tape.proofs.Answering.{accepted}
use Rattle.packed.specs.Views.{view_tape}
use Rattle.packed.proofs.Decoding.{nth_line_in}
use Rattle.packed.proofs.reading.ViewSheet.line.Goals as goal

pub returns : goal.returns
returns c =
    let v = c.args.self.now in
    let there : refuse_line (view_tape v) c.args.j ≡ None = rw v.filled (grind (arith, nat_tests)) in
    accepted _ _ _ _ there (c.line_in.ensures ∙ sym (nth_line_in v.bytes.now v.count c.args.j c.if-j-self.false))
