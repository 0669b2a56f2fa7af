use Rattle.std.proofs.Common.{◌≡◌, pos, nat_abs, ap, ◌∙◌, arith, w64, to_z, of_z}
use Rattle.std.specs.Int.{int_rem_euclid}
use Rattle.std.proofs.lemmas.Int.{to_z-of_z}
use Rattle.kind.specs.Modular.{prime, residue}
use Rattle.kind.proofs.Words.{residue_image, residue_below}
use Rattle.kind.proofs.modular.ResidueKind.image.Goals as goal

pub returns : goal.returns
returns c =
    let is : nat_abs (to_z w64 (of_z w64 c.rem_euclid.result)) ≡ nat_abs (int_rem_euclid c.args.n (pos prime)) = grind (arith, to_z-of_z) in
    (ap (λ n. residue (record { 0 = n })) is ∙ residue_image c.args.n, omega (arith, is, residue_below c.args.n))
