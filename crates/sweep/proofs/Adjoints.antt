-- The backward walk, over meanings: the loop's start, step and end. Assumes nothing.
use Rattle.std.proofs.Common.{◌≡◌, ℕ, ◌+◌, ◌-◌, ◌<◌, ◌≤◌, leb, List, ◌∷◌, ◌++◌, length, take, drop, set, pos, sym, refl, ap, ◌∙◌, subst, ap₂, arith, length-append, length-drop, take-append-drop, length-take}
use lib.Seq.{append_snoc}
use Rattle.std.proofs.lemmas.List.{drop_more, get_or_append_left, get_or_at, get_or-take, length-take-le, set_at, take_at, take_more, take-take}
use Rattle.kind.specs.Algebra.{multiplied}
use Rattle.kind.specs.Kinds.{Operations, Laws}
use Rattle.kind.specs.Rows.{dot_product}
use Rattle.tape.specs.declared.lines.Line.{Line}
use Rattle.tape.specs.declared.lines.Line.TheVariants.{Constant}
use Rattle.tape.specs.Derivatives.{line_derivative, perturbed}
use Rattle.tape.specs.Lines.{Below}
use Rattle.tape.specs.Rows.{at, unit}
use Rattle.tape.specs.Tapes.{Tape, Valid, line, registers}
use Rattle.tape.proofs.Growing.{grow_at, grow_keeps, grow_length}
use Rattle.tape.proofs.Reading.{agree_below, differential_agree}
use Rattle.sweep.specs.Reverse.{Gains, Transposes}
use Rattle.sweep.proofs.Products.{dot_move, dot_unit}

-- Above k each register moves by its own perturbation alone, below k by its tangent.
abbrev pub mixed : {M : Type 0} → Operations M → List M → Tape → List M → ℕ → List M
mixed o vs t δ k = take k (perturbed o vs t δ) ++ drop k δ

module _ {M : Type 0} (o : Operations M) (vs : List M) (t : Tape) (δ : List M) (one_each : length δ ≡ registers t) where
  abbrev step : Line → List M → M
  step l ts = o.plus (at o δ (length ts)) (line_derivative o vs l ts)

  start_length : length (take t.controls δ) ≡ t.controls
  start_length = length-take-le t.controls δ (omega arith)

  pub tangents_length : length (perturbed o vs t δ) ≡ registers t
  tangents_length = grow_length step (take t.controls δ) t.lines ∙ ap (λ n. n + length t.lines) start_length

  pub mixed_length : (k : ℕ) → k ≤ registers t → length (mixed o vs t δ k) ≡ registers t
  mixed_length k h = simp (length-append, length-take, length-drop, tangents_length) (omega arith)

  -- an entry below k
  pub mixed_at : (k i : ℕ) → k ≤ registers t → i < k → at o (mixed o vs t δ k) i ≡ at o (perturbed o vs t δ) i
  mixed_at k i h b =
      let long : i < length (take k (perturbed o vs t δ)) = simp (length-take, tangents_length) (omega arith) in
      get_or_append_left _ (drop k δ) o.zero i long ∙ get_or-take k _ i o.zero b

  -- the controls move by their perturbations
  pub mixed_end : (k : ℕ) → k ≤ t.controls → mixed o vs t δ k ≡ δ
  mixed_end k h =
      let T = perturbed o vs t δ in
      let n = t.controls in
      let kept : take n T ≡ take n δ = ap (λ m. take m T) (sym start_length) ∙ grow_keeps step (take n δ) t.lines in
      let same : take k T ≡ take k δ = sym (take-take k n T h) ∙ ap (take k) kept ∙ take-take k n δ h in
      ap (λ r. r ++ drop k δ) same ∙ take-append-drop k δ

  -- one register more moves by its tangent
  pub mixed_more : Valid t → (i : ℕ) → t.controls ≤ i → i < registers t
      → mixed o vs t δ (i + 1) ≡ set (mixed o vs t δ i) i (o.plus (at o (mixed o vs t δ i) i) (line_derivative o vs (line t (i - t.controls)) (mixed o vs t δ i)))
  mixed_more valid i above within =
      let T = perturbed o vs t δ in
      let p = take i T in
      let own = at o δ i in
      let rest = drop (i + 1) δ in
      let l = line t (i - t.controls) in
      let long : i < length T = rw tangents_length within in
      let p_length : length p ≡ i = length-take-le i T (omega arith) in
      let split : mixed o vs t δ i ≡ p ++ (own ∷ rest) = ap (λ r. p ++ r) (drop_more δ i o.zero (omega arith)) in
      let next : mixed o vs t δ (i + 1) ≡ p ++ (at o T i ∷ rest) = ap (λ r. r ++ rest) (take_more T i o.zero long) ∙ append_snoc p (at o T i) rest in
      let place : length (take t.controls δ) + (i - t.controls) ≡ i = rw start_length (omega arith) in
      let tangent : at o T i ≡ o.plus (at o δ (length p)) (line_derivative o vs l p) =
      grow_at step (take t.controls δ) t.lines (i - t.controls) i o.zero (Constant (pos 0)) (omega arith) place in
      let read_below : Below i l = subst (λ k. Below k l) (omega arith) (valid.below (i - t.controls) (omega arith)) in
      let same : line_derivative o vs l p ≡ line_derivative o vs l (p ++ (own ∷ rest)) =
      differential_agree o (leb i) _ _ (at o p) (at o (p ++ (own ∷ rest))) (λ k low. refl)
      (agree_below o i p (p ++ (own ∷ rest)) (take-take i i T (omega arith) ∙ sym (take_at p (own ∷ rest) i p_length))) l read_below in
      let moved : at o T i ≡ o.plus (at o (p ++ (own ∷ rest)) i) (line_derivative o vs l (p ++ (own ∷ rest))) =
      tangent ∙ ap₂ o.plus (ap (at o δ) p_length ∙ sym (get_or_at p own rest o.zero i p_length)) same in
      next ∙ ap (λ x. p ++ (x ∷ rest)) moved ∙ sym (set_at p own rest _ i p_length)
      ∙ ap (λ r. set r i (o.plus (at o r i) (line_derivative o vs l r))) (sym split)

-- What the loop of the walk keeps: δ is paid out above i.
abbrev pub Walks : {M : Type 0} → Operations M → List M → Tape → List M → ℕ → List M → Type 0
Walks {M} o vs t weights i adjoint = (δ : List M) → length δ ≡ registers t → dot_product o adjoint (mixed o vs t δ i) ≡ dot_product o weights (perturbed o vs t δ)

module _ {M : Type 0} {o : Operations M} (laws : Laws o) (vs : List M) (t : Tape) where
  pub walk_none : (r : ℕ) → r < registers t → Walks o vs t (unit o (registers t) r) (r + 1) (unit o (registers t) r)
  walk_none r some δ e =
      dot_unit laws _ (registers t) r some (mixed_length o vs t δ e (r + 1) (omega arith)) ∙ mixed_at o vs t δ e (r + 1) r (omega arith) (omega arith)
      ∙ sym (dot_unit laws _ (registers t) r some (tangents_length o vs t δ e))

  -- from register i on to register i - 1
  pub walk_more : Valid t → (weights : List M) (i : ℕ) (old new : List M) → t.controls < i → i ≤ registers t → length old ≡ registers t
      → Gains o old new (λ m. o.times (at o old (i - 1)) (line_derivative o vs (line t (i - 1 - t.controls)) m)) → Walks o vs t weights i old → Walks o vs t weights (i - 1) new
  walk_more valid weights i old new above within long gains before δ e =
      let k = i - 1 in
      let m = mixed o vs t δ k in
      let m_length : length m ≡ length old = mixed_length o vs t δ e k (omega arith) ∙ sym long in
      let next : k + 1 ≡ i = omega arith in
      gains m m_length
      ∙ sym (dot_move laws old m k _ (omega arith) m_length)
      ∙ ap (dot_product o old) (sym (mixed_more o vs t δ e valid k (omega arith) (omega arith)) ∙ ap (mixed o vs t δ) next)
      ∙ before δ e

  pub walk_all : (weights : List M) (i : ℕ) (adjoint : List M) → i ≤ t.controls → Walks o vs t weights i adjoint → Transposes o vs t weights adjoint
  walk_all weights i adjoint h walked δ e = ap (dot_product o adjoint) (sym (mixed_end o vs t δ e i h)) ∙ walked δ e

-- What a line gives back, by its kind: D is the sum before.
module _ {M : Type 0} {o : Operations M} (l : Laws o) where
  pub back_constant : (D q : M) → D ≡ o.plus D (o.times q o.zero)
  back_constant D q = simp multiplied

  pub back_subtract : (D q a b : M) → o.plus (o.plus D (o.times q a)) (o.times (o.opposite q) b) ≡ o.plus D (o.times q (o.plus a (o.opposite b)))
  back_subtract D q a b = simp multiplied

  pub back_multiply : (D q v w a b : M)
      → o.plus (o.plus D (o.times (o.times q w) a)) (o.times (o.times q v) b) ≡ o.plus D (o.times q (o.plus (o.times v b) (o.times w a)))
  back_multiply D q v w a b = simp multiplied

  pub back_opposite : (D q a : M) → o.plus D (o.times (o.opposite q) a) ≡ o.plus D (o.times q (o.opposite a))
  back_opposite D q a = simp multiplied
