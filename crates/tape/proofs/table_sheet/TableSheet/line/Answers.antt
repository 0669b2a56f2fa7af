use Rattle.std.proofs.Common.{◌≡◌, pos, None, sym, arith}
use Rattle.std.proofs.lemmas.List.{get_or-take}
use Rattle.std.proofs.lemmas.Bool.Decides.{nat_tests}
use Rattle.tape.specs.declared.lines.Line.TheVariants.{Constant}
use Rattle.tape.specs.Refusals.{refuse_line}
use Rattle.tape.specs.Tables.{table_tape}
use Rattle.tape.proofs.Answering.{accepted}
use Rattle.tape.proofs.table_sheet.TableSheet.line.Goals as goal

pub returns : goal.returns
returns c =
    let t = c.args.self.now in
    let there : refuse_line (table_tape t) c.args.j ≡ None = rw t.filled (grind (arith, nat_tests)) in
    accepted _ _ _ _ there (sym (get_or-take t.count t.lines c.args.j (Constant (pos 0)) c.if-j-self.false))
