use Rattle.std.proofs.Common.{◌≡◌, ◌<◌, ◌≤◌, length, take, None, sym, ap, ◌∙◌, subst, arith}
use Rattle.std.proofs.lemmas.Bool.Decides.{nat_tests}
use Rattle.std.proofs.lemmas.Result.{err_from_is_err_and}
use Rattle.tape.proofs.Answering.{not_declined}
use Rattle.packed.specs.Formats.{Packed, tape_of, file_length}
use Rattle.packed.specs.Views.{view_tape}
use Rattle.packed.specs.Writing.{Saved, refuse_save}
use Rattle.packed.proofs.Decoding.{packed_length}
use Rattle.packed.proofs.Encoding.{too_short}
use Rattle.packed.proofs.RoundTrips.{one_file}
use Rattle.packed.proofs.theorems.copy_file.Goals as goal

-- what is saved and what was read are the file of one tape
pub returns : goal.returns
returns c =
    let file = c.args.file.now in
    let old = c.args.buf.now in
    let buf = c.save.new.buf in
    let size = c.in_ok-save.field-0 in
    let read = c.in_ok-view.ensures in
    let tape = view_tape c.in_ok-view.view in
    let done = not_declined (refuse_save tape (length old)) size (buf ≡ old) (Saved tape old buf) c.in_ok-save.ensures in
    let free : refuse_save tape (length old) ≡ None = done.0 in
    let same : take size buf ≡ file = one_file (tape_of file) (take size buf) file (subst (λ t. Packed t (take size buf)) read.1 done.1.file) read.2 in
    let long : size ≡ length file = done.1.long ∙ ap (λ t. file_length (length t.lines)) read.1 ∙ sym (packed_length (tape_of file) file read.2) in
    let enough = done.1.long in
    let within : size ≤ length old = grind (arith, nat_tests) in
    (read.0, long, within, same, done.1.rest)

pub returns-in_err-save : goal.returns-in_err-save
returns-in_err-save c =
    let file = c.args.file.now in
    let old = c.args.buf.now in
    let buf = c.save.new.buf in
    let read = c.in_ok-view.ensures in
    let tape = view_tape c.in_ok-view.view in
    let told = err_from_is_err_and c.from_residual-in_err-save.result c.from_residual-in_err-save.ensures.1 in
    let declined = too_short (buf ≡ old) (Saved tape old buf) tape (length old) c.in_err-save.field-0.0 c.in_err-save.ensures in
    let long = ap (λ t. file_length (length t.lines)) read.1 ∙ sym (packed_length (tape_of file) file read.2) in
    let short : length old < length file = omega (arith, declined.0, long) in
    rw (told.1, told.2) (read.0, short, declined.1, declined.2)
