-- How tests narrow a range of steps, and what fixes a range. Assumes nothing.
use Rattle.std.proofs.Common.{◌≡◌, ℕ, ◌+◌, ◌<◌, Bool, true, false, ℤ, pos, ◌+ℤ◌, ◌*ℤ◌, neg_ℤ, ◌≤ℤ◌, ◌<ℤ◌, sym, refl, ap, ◌∙◌, subst, subst₂, arith, below_more}
use mathlib.Core.Bool.{beq}
use borrow.Author.Differences.{up, down}
use lib.IntN.{+ℤ_idr, *ℤ-zero}
use lib.Signed.{lt_z}
use Rattle.std.specs.Int.{int_max, int_min}
use Rattle.std.proofs.lemmas.Int.{clamps, ints}
use Rattle.exact.specs.Narrowing.{Narrowed, Reaches}
use Rattle.exact.specs.Ranges.{Between, Keeps, Range, Span}
use Rattle.exact.proofs.TestLaws.{keeps_above, keeps_below, kept_above, kept_below, one_part}

-- A range that a test narrows from below, from above, or not at all.
module _ (low high v t : ℤ) (low_in : Span low) (high_in : Span high) (stay : Between low high (pos 0)) where
  pub narrowed_below : (far : ℕ) (low' : ℤ) → Reaches v t far → (pos 0 <ℤ v → pos 0 <ℤ t) → (v ≤ℤ pos 0 → t <ℤ pos 0)
      → low' ≡ int_max low (neg_ℤ (pos far)) → Narrowed low high v t low' high
  narrowed_below far low' reach p n is = record {
    low_in = record { from = omega (arith, ints, clamps); to = omega (arith, ints, clamps) };
    high_in = high_in;
    stay = record { from = omega (arith, ints, clamps); to = stay.to };
    within = λ s h. (
      record { from = omega (arith, ints, clamps); to = h.to },
      keeps_below v t s p n (reach.near (down s) (omega (arith, ints, clamps, one_part s))),
    );
    only = λ s span h k.
        let few = reach.only (down s) (omega (arith, ints, one_part s)) (kept_below v t s p n k) in
        record { from = omega (arith, ints, clamps); to = h.to };
  }

  pub narrowed_above : (far : ℕ) (high' : ℤ) → Reaches v t far → (pos 0 <ℤ v → t <ℤ pos 0) → (v ≤ℤ pos 0 → pos 0 <ℤ t)
      → high' ≡ int_min high (pos far) → Narrowed low high v t low high'
  narrowed_above far high' reach p n is = record {
    low_in = low_in;
    high_in = record { from = omega (arith, ints, clamps); to = omega (arith, ints, clamps) };
    stay = record { from = stay.from; to = omega (arith, ints, clamps) };
    within = λ s h. (
      record { from = h.from; to = omega (arith, ints, clamps) },
      keeps_above v t s p n (reach.near (up s) (omega (arith, ints, clamps, one_part s))),
    );
    only = λ s span h k.
        let few = reach.only (up s) (omega (arith, ints, one_part s)) (kept_above v t s p n k) in
        record { from = h.from; to = omega (arith, ints, clamps) };
  }

  pub not_narrowed : t ≡ pos 0 → Narrowed low high v t low high
  not_narrowed flat =
      let unmoved : (s : ℤ) → v +ℤ s *ℤ t ≡ v = λ s. ap (λ z. v +ℤ s *ℤ z) flat ∙ ap (λ z. v +ℤ z) (*ℤ-zero s) ∙ +ℤ_idr v in
      record {
        low_in = low_in;
        high_in = high_in;
        stay = stay;
        within = λ s h. (h, record { above = λ e. subst (λ z. pos 0 <ℤ z) (sym (unmoved s)) e; not_above = λ e. subst (λ z. z ≤ℤ pos 0) (sym (unmoved s)) e });
        only = λ s span h k. h;
      }

-- The two ways of the test whether value and slope are on the same side of 0.
module _ (v t : ℤ) (some : t ≡ pos 0 → ⊥) where
  pub same_side : beq (lt_z (pos 0) v) (lt_z (pos 0) t) ≡ true → (pos 0 <ℤ v → pos 0 <ℤ t) × (v ≤ℤ pos 0 → t <ℤ pos 0)
  same_side e = by (lt_z (pos 0) v) (lt_z (pos 0) t) refl refl e
    where
      by : (x y : Bool) → lt_z (pos 0) v ≡ x → lt_z (pos 0) t ≡ y → beq x y ≡ true → (pos 0 <ℤ v → pos 0 <ℤ t) × (v ≤ℤ pos 0 → t <ℤ pos 0)
      by true true p q e = (λ h. omega (arith, ints), λ h. absurd (omega (arith, ints)))
      by true false p q e = let z : ◌≡◌ {A = ℕ} 0 1 = cc in absurd (omega arith)
      by false true p q e = let z : ◌≡◌ {A = ℕ} 0 1 = cc in absurd (omega arith)
      by false false p q e = (λ h. absurd (omega (arith, ints)), λ h. omega (arith, ints))

  pub other_side : beq (lt_z (pos 0) v) (lt_z (pos 0) t) ≡ false → (pos 0 <ℤ v → t <ℤ pos 0) × (v ≤ℤ pos 0 → pos 0 <ℤ t)
  other_side e = by (lt_z (pos 0) v) (lt_z (pos 0) t) refl refl e
    where
      by : (x y : Bool) → lt_z (pos 0) v ≡ x → lt_z (pos 0) t ≡ y → beq x y ≡ false → (pos 0 <ℤ v → t <ℤ pos 0) × (v ≤ℤ pos 0 → pos 0 <ℤ t)
      by true true p q e = let z : ◌≡◌ {A = ℕ} 0 1 = cc in absurd (omega arith)
      by true false p q e = (λ h. omega (arith, ints), λ h. absurd (omega (arith, ints)))
      by false true p q e = (λ h. absurd (omega (arith, ints)), λ h. omega (arith, ints))
      by false false p q e = let z : ◌≡◌ {A = ℕ} 0 1 = cc in absurd (omega arith)

-- A range of the steps that keep the first tests: one more, and all.
module _ (v t : ℕ → ℤ) where
  pub range_more : (i : ℕ) (low high a b low' high' : ℤ) → Range (λ s. (k : ℕ) → k < i → Keeps (v k) (t k) s) low high → a ≡ v i → b ≡ t i
      → Narrowed low high a b low' high' → Range (λ s. (k : ℕ) → k < i + 1 → Keeps (v k) (t k) s) low' high'
  range_more i low high a b low' high' r p q narrow =
      let n : Narrowed low high (v i) (t i) low' high' = subst₂ (λ x y. Narrowed low high x y low' high') p q narrow in
      record {
        low_in = n.low_in;
        high_in = n.high_in;
        stay = n.stay;
        within = λ s h. below_more (λ k. Keeps (v k) (t k) s) i (r.within s (n.within s h).0) (n.within s h).1;
        only = λ s span h. n.only s span (r.only s span (λ k b. h k (omega arith))) (h i (omega arith));
      }

  pub range_all : (i n : ℕ) (low high : ℤ) → i ≡ n → Range (λ s. (k : ℕ) → k < i → Keeps (v k) (t k) s) low high → Range (λ s. (k : ℕ) → k < n → Keeps (v k) (t k) s) low high
  range_all i n low high e r = subst (λ m. Range (λ s. (k : ℕ) → k < m → Keeps (v k) (t k) s) low high) e r

-- A range is pinned: its ends are the lowest and the highest step of the property, whose neighbours outside lack it.
module _ (P : ℤ → Type 0) (low high : ℤ) (r : Range P low high) where
  ends : Between low high low × Between low high high
  ends = let stay = r.stay in (record { from = omega (arith, ints); to = omega (arith, ints) }, record { from = omega (arith, ints); to = omega (arith, ints) })

  pub range_unique : (low' high' : ℤ) → Range P low' high' → (low ≡ low') × (high ≡ high')
  range_unique low' high' r' =
      let stay' = r'.stay in
      let ends' : Between low' high' low' × Between low' high' high' =
      (record { from = omega (arith, ints); to = omega (arith, ints) }, record { from = omega (arith, ints); to = omega (arith, ints) }) in
      let a = r'.only low r.low_in (r.within low ends.0) in
      let b = r.only low' r'.low_in (r'.within low' ends'.0) in
      let c = r'.only high r.high_in (r.within high ends.1) in
      let d = r.only high' r'.high_in (r'.within high' ends'.1) in
      (omega (arith, ints), omega (arith, ints))

  pub not_below : (s : ℤ) → s +ℤ pos 1 ≡ low → Span s → P s → ⊥
  not_below s next span h = let in_range = r.only s span h in omega (arith, ints)

  pub not_above : (s : ℤ) → high +ℤ pos 1 ≡ s → Span s → P s → ⊥
  not_above s next span h = let in_range = r.only s span h in omega (arith, ints)
