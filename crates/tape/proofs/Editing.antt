-- What an edit of a list of lines keeps. Assumes nothing.
use Rattle.std.proofs.Common.{◌≡◌, ℕ, zero, suc, ◌<◌, ◌≤◌, false, ◌≢◌, List, length, get_or, set, replicate, pos, sym, refl, subst, ⊎_elim, arith, length-set}
use Rattle.std.proofs.lemmas.Bool.{cases_lt}
use Rattle.std.proofs.lemmas.List.{get_or-set_same, get_or-set_other}
use Rattle.tape.specs.declared.lines.Line.{Line}
use Rattle.tape.specs.declared.lines.Line.TheVariants.{Constant}
use Rattle.tape.specs.Tapes.{nth}

-- What holds of each line at its place, after an edit.
module _ (P : ℕ → Line → Type 0) (lines : List Line) (each : (j : ℕ) → j < length lines → P j (nth lines j)) where
  pub each_set : (i : ℕ) (l : Line) → i < length lines → P i l → (j : ℕ) → j < length (set lines i l) → P j (nth (set lines i l) j)
  each_set i l there new j h = ⊎_elim
      (λ (before : j < i). let other : j ≢ i = omega arith in elsewhere other)
      (λ (from : i ≤ j). ⊎_elim
      (λ (after : i < j). let other : j ≢ i = omega arith in elsewhere other)
      (λ (back : j ≤ i).
      let same : i ≡ j = omega arith in
      subst (λ k. P k (nth (set lines i l) k)) same (subst (P i) (sym (get_or-set_same lines i l (Constant (pos 0)) there)) new))
      (cases_lt i j))
      (cases_lt j i)
    where
      elsewhere : j ≢ i → P j (nth (set lines i l) j)
      elsewhere other = subst (P j) (sym (get_or-set_other lines i j l (Constant (pos 0)) other)) (each j (omega (arith, length-set lines i l)))

-- No mark.
pub clear_none : (m j : ℕ) → get_or (replicate m false) j false ≡ false
clear_none zero j = refl
clear_none (suc m) zero = refl
clear_none (suc m) (suc j) = clear_none m j
