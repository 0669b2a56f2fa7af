-- What a line reads decides what it comes to: a line that reads no register of `bad` does not see what changes there.
-- Assumes nothing.
use Rattle.std.proofs.Common.{◌≡◌, ℕ, ◌<◌, Bool, false, ◌||◌, leb, List, map, length, get_or, take, sym, refl, ap, ◌∙◌, ap₂}
use Rattle.std.proofs.lemmas.Bool.{or_parts, or_from, leb-false}
use Rattle.std.proofs.lemmas.List.{get_or-map, get_or-take}
use Rattle.kind.specs.Kinds.{Operations}
use Rattle.tape.specs.declared.lines.Line.{Line}
use Rattle.tape.specs.declared.lines.Line.TheVariants.{Constant, Add, Subtract, Multiply, Opposite}
use Rattle.tape.specs.Lines.{reads}
use Rattle.tape.specs.Rows.{at}
use Rattle.tape.specs.Values.{applied}
use Rattle.tape.specs.Derivatives.{differential, second_differential}

-- What holds of each register that a line reads.
both : (bad : ℕ → Bool) (P : ℕ → Type 0) → ((k : ℕ) → bad k ≡ false → P k) → (a b : ℕ) → (bad a || bad b) ≡ false → P a × P b
both bad P good a b none = let h = or_parts (bad a) (bad b) none in (good a h.0, good b h.1)

module _ (bad p q : ℕ → Bool) (same : (k : ℕ) → bad k ≡ false → p k ≡ q k) where
  abbrev both_same : (a b : ℕ) → (bad a || bad b) ≡ false → (p a || p b) ≡ (q a || q b)
  both_same a b none = let h = both bad (λ k. p k ≡ q k) same a b none in ap₂ ◌||◌ h.0 h.1

  pub reads_agree : (l : Line) → reads l bad ≡ false → reads l p ≡ reads l q
  reads_agree (Constant c) none = refl
  reads_agree (Add a b) none = both_same a b none
  reads_agree (Subtract a b) none = both_same a b none
  reads_agree (Multiply a b) none = both_same a b none
  reads_agree (Opposite a) none = same a none

-- a line that reads nothing of `bad` reads nothing that is bad at most
pub reads_fewer : (bad p : ℕ → Bool) → ((k : ℕ) → bad k ≡ false → p k ≡ false) → (l : Line) → reads l bad ≡ false → reads l p ≡ false
reads_fewer bad p fewer (Constant c) none = refl
reads_fewer bad p fewer (Add a b) none = let h = both bad (λ k. p k ≡ false) fewer a b none in or_from (p a) (p b) h.0 h.1
reads_fewer bad p fewer (Subtract a b) none = let h = both bad (λ k. p k ≡ false) fewer a b none in or_from (p a) (p b) h.0 h.1
reads_fewer bad p fewer (Multiply a b) none = let h = both bad (λ k. p k ≡ false) fewer a b none in or_from (p a) (p b) h.0 h.1
reads_fewer bad p fewer (Opposite a) none = fewer a none

module _ {M : Type 0} (o : Operations M) (bad : ℕ → Bool) where
  pub applied_agree : (v w : ℕ → M) → ((k : ℕ) → bad k ≡ false → v k ≡ w k) → (l : Line) → reads l bad ≡ false → applied o v l ≡ applied o w l
  applied_agree v w same (Constant c) none = refl
  applied_agree v w same (Add a b) none = let h = both bad (λ k. v k ≡ w k) same a b none in ap₂ o.plus h.0 h.1
  applied_agree v w same (Subtract a b) none = let h = both bad (λ k. v k ≡ w k) same a b none in ap₂ (λ x y. o.plus x (o.opposite y)) h.0 h.1
  applied_agree v w same (Multiply a b) none = let h = both bad (λ k. v k ≡ w k) same a b none in ap₂ o.times h.0 h.1
  applied_agree v w same (Opposite a) none = ap o.opposite (same a none)

  pub differential_agree : (v w t u : ℕ → M) → ((k : ℕ) → bad k ≡ false → v k ≡ w k) → ((k : ℕ) → bad k ≡ false → t k ≡ u k) → (l : Line) → reads l bad ≡ false
      → differential o v t l ≡ differential o w u l
  differential_agree v w t u vs ts (Constant c) none = refl
  differential_agree v w t u vs ts (Add a b) none = let h = both bad (λ k. t k ≡ u k) ts a b none in ap₂ o.plus h.0 h.1
  differential_agree v w t u vs ts (Subtract a b) none = let h = both bad (λ k. t k ≡ u k) ts a b none in ap₂ (λ x y. o.plus x (o.opposite y)) h.0 h.1
  differential_agree v w t u vs ts (Multiply a b) none =
      let h = both bad (λ k. v k ≡ w k) vs a b none in
      let i = both bad (λ k. t k ≡ u k) ts a b none in
      ap₂ o.plus (ap₂ o.times h.0 i.1) (ap₂ o.times h.1 i.0)
  differential_agree v w t u vs ts (Opposite a) none = ap o.opposite (ts a none)

  pub second_differential_agree : (v d e f s : ℕ → M) → ((k : ℕ) → bad k ≡ false → e k ≡ f k) → (l : Line) → reads l bad ≡ false
      → second_differential o v d e s l ≡ second_differential o v d f s l
  second_differential_agree v d e f s es (Constant c) none = refl
  second_differential_agree v d e f s es (Add a b) none = refl
  second_differential_agree v d e f s es (Subtract a b) none = refl
  second_differential_agree v d e f s es (Multiply a b) none =
      let h = both bad (λ k. e k ≡ f k) es a b none in
      ap₂ (λ x y. o.plus (o.plus (o.plus (o.times (v a) (s b)) (o.times (d a) y)) (o.times x (d b))) (o.times (v b) (s a))) h.0 h.1
  second_differential_agree v d e f s es (Opposite a) none = refl

  -- the same of the second changes s
  pub second_agree : (v d e s u : ℕ → M) → ((k : ℕ) → bad k ≡ false → s k ≡ u k) → (l : Line) → reads l bad ≡ false
      → second_differential o v d e s l ≡ second_differential o v d e u l
  second_agree v d e s u ss (Constant c) none = refl
  second_agree v d e s u ss (Add a b) none = let h = both bad (λ k. s k ≡ u k) ss a b none in ap₂ o.plus h.0 h.1
  second_agree v d e s u ss (Subtract a b) none = let h = both bad (λ k. s k ≡ u k) ss a b none in ap₂ (λ x y. o.plus x (o.opposite y)) h.0 h.1
  second_agree v d e s u ss (Multiply a b) none =
      let h = both bad (λ k. s k ≡ u k) ss a b none in
      ap₂ (λ x y. o.plus (o.plus (o.plus (o.times (v a) y) (o.times (d a) (e b))) (o.times (e a) (d b))) (o.times (v b) x)) h.0 h.1
  second_agree v d e s u ss (Opposite a) none = ap o.opposite (ss a none)

-- Two rows that agree below k agree wherever a line reads that reads below k.
pub agree_below : {M : Type 0} (o : Operations M) (k : ℕ) (xs ys : List M) → take k xs ≡ take k ys → (i : ℕ) → leb k i ≡ false → at o xs i ≡ at o ys i
agree_below o k xs ys e i low =
    let h : i < k = leb-false k i low in
    sym (get_or-take k xs i o.zero h) ∙ ap (λ r. at o r i) e ∙ get_or-take k ys i o.zero h

-- What `row[i]` gives, by its meaning.
pub read : {X Y : Type 0} (f : X → Y) (xs : List X) (i : ℕ) (x : X) (z : Y) → i < length xs → x ≡ get_or xs i x → f x ≡ get_or (map f xs) i z
read f xs i x z within is = ap f is ∙ sym (get_or-map f xs i x z within)
