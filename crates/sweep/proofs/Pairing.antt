-- Rows of pairs, and their parts. Assumes nothing.
use Rattle.std.proofs.Common.{◌≡◌, ℕ, zero, suc, ◌<◌, List, [], ◌∷◌, map, length, get_or, refl, ap, ◌∙◌, arith}
use Rattle.kind.specs.Dual.{Dual, dual_path}
use Rattle.sweep.specs.Forward.{paired}

module _ {M : Type 0} where
  pub paired_length : (cs ds : List M) → length ds ≡ length cs → length (paired cs ds) ≡ length cs
  paired_length [] ds e = refl
  paired_length (c ∷ cs) [] e = absurd (omega arith)
  paired_length (c ∷ cs) (d ∷ ds) e = ap suc (paired_length cs ds (omega arith))

  pub paired_given : {n : ℕ} (cs ds : List M) → length cs ≡ n → length ds ≡ n → length (paired cs ds) ≡ n
  paired_given cs ds p q = paired_length cs ds (omega arith) ∙ p

  pub paired_read : (cs ds : List M) (i : ℕ) (c d : M) (z : Dual M) → i < length cs → i < length ds → c ≡ get_or cs i c → d ≡ get_or ds i d
      → record { value = c; tangent = d } ≡ get_or (paired cs ds) i z
  paired_read [] ds i c d z hc hd p q = elim hc [ ]
  paired_read (a ∷ cs) [] i c d z hc hd p q = elim hd [ ]
  paired_read (a ∷ cs) (b ∷ ds) zero c d z hc hd p q = dual_path p q
  paired_read (a ∷ cs) (b ∷ ds) (suc i) c d z hc hd p q = paired_read cs ds i c d z (omega arith) (omega arith) p q

  pub paired_values : (cs ds : List M) → length ds ≡ length cs → map (λ p. p.value) (paired cs ds) ≡ cs
  paired_values [] ds e = refl
  paired_values (c ∷ cs) [] e = absurd (omega arith)
  paired_values (c ∷ cs) (d ∷ ds) e = ap (λ r. c ∷ r) (paired_values cs ds (omega arith))

  pub paired_tangents : (cs ds : List M) → length ds ≡ length cs → map (λ p. p.tangent) (paired cs ds) ≡ ds
  paired_tangents [] [] e = refl
  paired_tangents [] (d ∷ ds) e = absurd (omega arith)
  paired_tangents (c ∷ cs) [] e = absurd (omega arith)
  paired_tangents (c ∷ cs) (d ∷ ds) e = ap (λ r. d ∷ r) (paired_tangents cs ds (omega arith))
