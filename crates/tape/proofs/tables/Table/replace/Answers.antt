use Rattle.std.proofs.Common.{◌≡◌, ◌+◌, ◌-◌, ◌<◌, true, false, ◌≢◌, length, take, None, sym, refl, ap, ◌∙◌, subst, arith, length-set}
use lib.Seq.{take-set-lt}
use Rattle.std.proofs.lemmas.List.{get_or-set_other}
use Rattle.std.proofs.lemmas.Bool.Decides.{nat_tests}
use Rattle.tape.specs.Lines.{Below}
use Rattle.tape.specs.Refusals.{refuse_reads, refuse_replace}
use Rattle.tape.specs.Tables.{table_tape}
use Rattle.tape.specs.Tapes.{ReadsBelow, ConstantsFit, ConstantFits}
use Rattle.tape.proofs.Answering.{accepted, not_declined}
use Rattle.tape.proofs.Editing.{each_set}
use Rattle.tape.proofs.tables.Table.replace.Goals as goal

pub invariant_of-self : goal.invariant_of-self
invariant_of-self c =
    let t = c.args.self.now in
    let l = c.args.line in
    let j = c.args.register - t.controls in
    let lines = take t.count t.lines in
    let there : j < length lines = omega (arith, t.filled) in
    let put = take-set-lt t.count t.lines j l (omega arith) in
    let own : c.args.register ≡ t.controls + j = omega arith in
    let admitted = not_declined (refuse_reads c.args.register l) tt (Unit {0}) (λ _. Below c.args.register l) c.in_ok-admit_at.ensures.why in
    let low : Below (t.controls + j) l = subst (λ k. Below k l) own admitted.1 in record {
      some = t.some;
      few = t.few;
      room = t.room;
      filled = ap length put ∙ length-set lines j l ∙ t.filled;
      marked = length-set t.stale j true ∙ t.marked;
      below = subst (ReadsBelow t.controls) (sym put) (each_set (λ i. Below (t.controls + i)) lines t.below j l there low);
      fit = subst ConstantsFit (sym put) (each_set (λ i. ConstantFits) lines t.fit j l there c.admit_at.ensures.fits);
      clear = λ i h. let other : i ≢ j = omega arith in get_or-set_other t.stale j i true false other ∙ t.clear i h;
    }

pub returns : goal.returns
returns c =
    let t = c.args.self.now in
    let j = c.args.register - t.controls in
    let admitted = (not_declined (refuse_reads c.args.register c.args.line) tt (Unit {0}) (λ _. Below c.args.register c.args.line) c.in_ok-admit_at.ensures.why).0 in
    let free : refuse_replace (table_tape t) c.args.register c.args.line ≡ None = rw t.filled (grind (arith, nat_tests)) in
    accepted _ _ _ _ free (record {
      tape = λ i. record { controls = t.controls; lines = take-set-lt t.count t.lines j c.args.line (omega arith) i };
      marks = refl;
    })
