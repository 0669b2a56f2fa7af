-- When a step keeps a test, by the slack of its value. Assumes nothing.
use Rattle.std.proofs.Common.{◌≡◌, ℕ, zero, suc, ◌+◌, ◌-◌, ◌*◌, ◌/◌, ◌<◌, ◌≤◌, min, ◌⊎◌, ◌↔◌, ℤ, pos, negsuc, ◌+ℤ◌, ◌*ℤ◌, neg_ℤ, nat_abs, ◌≤ℤ◌, ◌<ℤ◌, sym, refl, ◌∙◌, subst, ap₂, inl, inr, le-div_iff_mul-le, arith}
use borrow.Author.Differences.{up, down, neg_is}
use lib.IntN.{*ℤ-zero, zero-*ℤ}
use Rattle.std.proofs.lemmas.Int.{ints}
use Rattle.exact.specs.Narrowing.{Reaches, slack}
use Rattle.exact.specs.Ranges.{Keeps}

-- Where a value above 0 rises, or one not above 0 falls, the steps down lose its test once its slack is spent, and the steps up never do.

pub keeps_below : (v t s : ℤ) → (pos 0 <ℤ v → pos 0 <ℤ t) → (v ≤ℤ pos 0 → t <ℤ pos 0) → down s * nat_abs t ≤ slack v → Keeps v t s
keeps_below v (pos zero) s p n h = record { above = λ e. absurd (omega (arith, ints, p e)); not_above = λ e. absurd (omega (arith, ints, n e)) }
keeps_below v (pos (suc b)) (pos k) p n h = record { above = λ e. omega (arith, ints); not_above = λ e. absurd (omega (arith, ints, n e)) }
keeps_below (pos a) (pos (suc b)) (negsuc k) p n h = record { above = λ e. omega (arith, ints); not_above = λ e. absurd (omega (arith, ints, n e)) }
keeps_below (negsuc a) (pos (suc b)) (negsuc k) p n h = record { above = λ e. absurd (omega (arith, ints)); not_above = λ e. absurd (omega (arith, ints, n e)) }
keeps_below v (negsuc b) (pos k) p n h = record { above = λ e. absurd (omega (arith, ints, p e)); not_above = λ e. omega (arith, ints) }
keeps_below (pos a) (negsuc b) (negsuc k) p n h = record { above = λ e. absurd (omega (arith, ints, p e)); not_above = λ e. omega (arith, ints) }
keeps_below (negsuc a) (negsuc b) (negsuc k) p n h = record { above = λ e. absurd (omega (arith, ints)); not_above = λ e. omega (arith, ints) }

pub kept_below : (v t s : ℤ) → (pos 0 <ℤ v → pos 0 <ℤ t) → (v ≤ℤ pos 0 → t <ℤ pos 0) → Keeps v t s → down s * nat_abs t ≤ slack v
kept_below v t (pos k) p n h = omega arith
kept_below (pos zero) (pos b) (negsuc k) p n h = let e = n (omega (arith, ints)) in absurd (omega (arith, ints))
kept_below (pos zero) (negsuc b) (negsuc k) p n h = let g = h.not_above (omega (arith, ints)) in omega (arith, ints)
kept_below (pos (suc a)) (pos b) (negsuc k) p n h = let g = h.above (omega (arith, ints)) in omega (arith, ints)
kept_below (pos (suc a)) (negsuc b) (negsuc k) p n h = let e = p (omega (arith, ints)) in absurd (omega (arith, ints))
kept_below (negsuc a) (pos b) (negsuc k) p n h = let e = n (omega (arith, ints)) in absurd (omega (arith, ints))
kept_below (negsuc a) (negsuc b) (negsuc k) p n h = let g = h.not_above (omega (arith, ints)) in omega (arith, ints)

-- The other way round: to turn both the step and the slope changes nothing.

turned : (s t : ℤ) → neg_ℤ s *ℤ neg_ℤ t ≡ s *ℤ t
turned (pos zero) t = zero-*ℤ (neg_ℤ t) ∙ sym (zero-*ℤ t)
turned (pos (suc a)) (pos zero) = *ℤ-zero (negsuc a) ∙ sym (*ℤ-zero (pos (suc a)))
turned (pos (suc a)) (pos (suc b)) = refl
turned (pos (suc a)) (negsuc b) = refl
turned (negsuc a) (pos zero) = *ℤ-zero (pos (suc a)) ∙ sym (*ℤ-zero (negsuc a))
turned (negsuc a) (pos (suc b)) = refl
turned (negsuc a) (negsuc b) = refl

abs_turned : (t : ℤ) → nat_abs (neg_ℤ t) ≡ nat_abs t
abs_turned t = omega (arith, ints)

keeps_turned : (v t s : ℤ) → Keeps v (neg_ℤ t) (neg_ℤ s) → Keeps v t s
keeps_turned v t s h = record {
  above = λ e. subst (λ z. pos 0 <ℤ (v +ℤ z)) (turned s t) (h.above e);
  not_above = λ e. subst (λ z. (v +ℤ z) ≤ℤ pos 0) (turned s t) (h.not_above e);
}

turned_keeps : (v t s : ℤ) → Keeps v t s → Keeps v (neg_ℤ t) (neg_ℤ s)
turned_keeps v t s h = record {
  above = λ e. subst (λ z. pos 0 <ℤ (v +ℤ z)) (sym (turned s t)) (h.above e);
  not_above = λ e. subst (λ z. (v +ℤ z) ≤ℤ pos 0) (sym (turned s t)) (h.not_above e);
}

module _ (v t s : ℤ) (p : pos 0 <ℤ v → t <ℤ pos 0) (n : v ≤ℤ pos 0 → pos 0 <ℤ t) where
  up_is : down (neg_ℤ s) * nat_abs (neg_ℤ t) ≡ up s * nat_abs t
  up_is = ap₂ ◌*◌ (neg_is s).1 (abs_turned t)

  pub keeps_above : up s * nat_abs t ≤ slack v → Keeps v t s
  keeps_above h =
      keeps_turned v t s
      (keeps_below v (neg_ℤ t) (neg_ℤ s) (λ e. let g = p e in omega (arith, ints)) (λ e. let g = n e in omega (arith, ints)) (subst (λ m. m ≤ slack v) (sym up_is) h))

  pub kept_above : Keeps v t s → up s * nat_abs t ≤ slack v
  kept_above h =
      subst (λ m. m ≤ slack v) up_is
      (kept_below v (neg_ℤ t) (neg_ℤ s) (λ e. let g = p e in omega (arith, ints)) (λ e. let g = n e in omega (arith, ints)) (turned_keeps v t s h))

-- A quotient reaches so far.
pub reached : (v t : ℤ) (far : ℕ) → 0 < nat_abs t → far ≡ min (slack v / nat_abs t) 1000000 → Reaches v t far
reached v t far some is =
    let divides : (k : ℕ) → (k ≤ slack v / nat_abs t) ↔ (k * nat_abs t ≤ slack v) = λ k. le-div_iff_mul-le some in
    record {
      in_span = omega arith;
      near = λ k h. (divides k).0 (omega arith);
      only = λ k h m. let g = (divides k).1 m in omega arith;
    }

-- One part of a number is 0, which `omega` is not told.
pub one_part : (s : ℤ) → (up s ≡ 0) ⊎ (down s ≡ 0)
one_part (pos n) = inr refl
one_part (negsuc n) = inl refl

pub slack_is : (z : ℤ) → slack z ≡ (up z - 1) + down z
slack_is (pos n) = omega arith
slack_is (negsuc n) = omega arith
