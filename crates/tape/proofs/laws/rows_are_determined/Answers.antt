use Rattle.std.proofs.Common.{refl}
use Rattle.tape.proofs.Determining.{determined}
use Rattle.tape.proofs.Reading.{applied_agree, differential_agree, second_agree}
use Rattle.tape.proofs.laws.rows_are_determined.Goals as goal

pub returns : goal.returns
returns g c =
    let o = g.K.Kind.ops in
    record {
      values = determined o _ (applied_agree o);
      derivatives = λ vs. determined o _ (λ bad t u same l none. differential_agree o bad _ _ t u (λ k low. refl) same l none);
      second = λ vs ds es. determined o _ (λ bad s u same l none. second_agree o bad _ _ _ s u same l none);
    }
