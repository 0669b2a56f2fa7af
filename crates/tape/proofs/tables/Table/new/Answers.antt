use Rattle.std.proofs.Common.{◌≡◌, None, refl, arith}
use Rattle.std.proofs.lemmas.Bool.Decides.{nat_tests}
use Rattle.tape.specs.Refusals.{refuse_controls}
use Rattle.tape.proofs.Answering.{accepted}
use Rattle.tape.proofs.Editing.{clear_none}
use Rattle.tape.proofs.tables.Table.new.Goals as goal

pub invariant_of-result : goal.invariant_of-result
invariant_of-result c =
    record {
      some = omega arith;
      few = omega arith;
      room = omega arith;
      filled = refl;
      marked = refl;
      below = λ j h. refl;
      fit = λ j h. (omega arith, omega arith);
      clear = λ j h. clear_none 1024 j;
    }

pub returns : goal.returns
returns c =
    let within : refuse_controls c.args.controls ≡ None = grind (arith, nat_tests) in
    accepted _ _ _ _ within (record { tape = refl; marks = refl })
