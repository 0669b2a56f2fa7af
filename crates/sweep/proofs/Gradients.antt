-- From the transposition law to the adjoint row's entries and to gradients. Assumes nothing.
use Rattle.std.proofs.Common.{◌≡◌, ℕ, ◌+◌, ◌-◌, ◌<◌, ◌≤◌, leb, List, ◌++◌, map, length, take, drop, replicate, pos, sym, refl, ap, ◌∙◌, subst, ap₂, arith, length-append, length-set, take-append-drop, length-take}
use native.Mathlib.Decide.{dec_le}
use lib.ListN.{length-replicate}
use Rattle.std.proofs.lemmas.List.{get_or-append_right, get_or-replicate, length-map, length-take-le, take_all, take-append-le, take_at, take-map, take-take}
use Rattle.std.proofs.lemmas.Slice.{drop-append-drop}
use Rattle.std.proofs.lemmas.Bool.{lt-leb}
use Rattle.kind.specs.Algebra.{plus_zero}
use Rattle.kind.specs.Kinds.{Operations, Laws}
use Rattle.kind.specs.Rows.{dot_product}
use Rattle.tape.specs.declared.lines.Line.TheVariants.{Constant}
use Rattle.tape.specs.Derivatives.{derivatives, line_derivative, perturbed}
use Rattle.tape.specs.Lines.{Below}
use Rattle.tape.specs.Rows.{at, unit}
use Rattle.tape.specs.Tapes.{Tape, Valid, line, registers}
use Rattle.tape.specs.Values.{values}
use Rattle.tape.proofs.Growing.{grow_at, grow_keeps, grow_old, grown, same_to}
use Rattle.tape.proofs.Reading.{agree_below, differential_agree}
use Rattle.sweep.specs.Forward.{Filled, given}
use Rattle.sweep.specs.Queries.{IsGradient}
use Rattle.sweep.specs.Reverse.{Adjoint, Transposes}
use Rattle.sweep.proofs.Adjoints.{tangents_length}
use Rattle.sweep.proofs.Products.{dot_append, dot_comm, dot_unit, dot_zeros}

-- The tangents of registers 0 to r depend on the values below r only.
module _ {M : Type 0} (o : Operations M) (t : Tape) (valid : Valid t) (r : ℕ) (known : r < registers t) where
  tangents_same : (vs ws δ : List M) → length δ ≡ registers t → take r vs ≡ take r ws → take (r + 1) (perturbed o vs t δ) ≡ take (r + 1) (perturbed o ws t δ)
  tangents_same vs ws δ e same =
      let T = perturbed o vs t δ in
      let U = perturbed o ws t δ in
      let n = t.controls in
      let n_is : length (take n δ) ≡ n = length-take-le n δ (omega arith) in
      same_to (r + 1) T U o.zero (rw (tangents_length o vs t δ e) (omega arith)) (rw (tangents_length o ws t δ e) (omega arith))
      (λ i h before. elim (dec_le n i) [
        | yes above ↦
            (let l = line t (i - n) in
            let place : length (take n δ) + (i - n) ≡ i = rw n_is (omega arith) in
            let reads : Below i l = subst (λ k. Below k l) (omega arith) (valid.below (i - n) (omega arith)) in
            let vs_same : take i vs ≡ take i ws = sym (take-take i r vs (omega arith)) ∙ ap (take i) same ∙ take-take i r ws (omega arith) in
            grow_at _ (take n δ) t.lines (i - n) i o.zero (Constant (pos 0)) (omega arith) place
            ∙ ap₂ o.plus (ap (λ p. at o δ (length p)) before)
            (differential_agree o (leb i) _ _ _ _ (agree_below o i vs ws vs_same) (agree_below o i (take i T) (take i U) (ap (take i) before)) l reads)
            ∙ sym (grow_at _ (take n δ) t.lines (i - n) i o.zero (Constant (pos 0)) (omega arith) place))
        | no below ↦
            (let early : i < length (take n δ) = rw n_is (omega arith) in
            grow_old _ (take n δ) t.lines i o.zero early ∙ sym (grow_old _ (take n δ) t.lines i o.zero early))
      ])

  pub transposes_same : Laws o → (vs ws adjoint : List M) → take r vs ≡ take r ws
      → Transposes o vs t (unit o (registers t) r) adjoint → Transposes o ws t (unit o (registers t) r) adjoint
  transposes_same laws vs ws adjoint same law δ e =
      law δ e
      ∙ dot_unit laws _ (registers t) r known (tangents_length o vs t δ e)
      ∙ agree_below o (r + 1) _ _ (tangents_same vs ws δ e same) r (lt-leb (r + 1) r (omega arith))
      ∙ sym (dot_unit laws _ (registers t) r known (tangents_length o ws t δ e))

-- over the values of registers 0 to r, as a sweep up leaves them
pub transposes_filled : {K M : Type 0} (o : Operations M) (means : K → M) (t : Tape) → Valid t → (r : ℕ) → r < registers t → Laws o → (cs : List M) (old new : List K)
    → Filled o means t cs r old new → (adjoint : List M) → Transposes o (map means new) t (unit o (registers t) r) adjoint
    → Transposes o (values o cs t.lines) t (unit o (registers t) r) adjoint
transposes_filled o means t valid r known laws cs old new fills adjoint law =
    let V = values o cs t.lines in
    let vs = map means new in
    let same : take r vs ≡ take r V = sym (take-take r (r + 1) vs (omega arith)) ∙ ap (take r) fills.filled ∙ take-take r (r + 1) V (omega arith) in
    transposes_same o t valid r known laws vs V adjoint same law

pub unit_length : {M : Type 0} (o : Operations M) (n i : ℕ) → length (unit o n i) ≡ n
unit_length o n i = length-set _ i o.one ∙ length-replicate n o.zero

-- an entry is the product with a unit row
pub entry_by_unit : {M : Type 0} {o : Operations M} → Laws o → (n i : ℕ) (row : List M) → i < n → length row ≡ n → at o row i ≡ dot_product o row (unit o n i)
entry_by_unit {M} {o} laws n i row h long = sym (dot_comm laws row (unit o n i) ∙ dot_unit laws row n i h long)

-- Where only the controls are moved, the tangents are the formal derivative.
module _ {M : Type 0} {o : Operations M} (laws : Laws o) (vs : List M) (t : Tape) (d : List M) (d_is : length d ≡ t.controls) where
  abbrev moved : List M
  moved = d ++ replicate (length t.lines) o.zero

  moved_length : length moved ≡ registers t
  moved_length = simp (length-append, length-replicate) (omega arith)

  tangents_are : perturbed o vs t moved ≡ derivatives o vs d t.lines
  tangents_are =
      let T = perturbed o vs t moved in
      let first : take t.controls moved ≡ d = take_at d _ t.controls d_is in
      let first_length : length (take t.controls moved) ≡ length d = ap length first in
      let long : length T ≡ length d + length t.lines = rw (tangents_length o vs t moved moved_length) (omega arith) in
      let kept : take (length d) T ≡ d = ap (λ k. take k T) (sym first_length) ∙ grow_keeps _ (take t.controls moved) t.lines ∙ first in
      grown (line_derivative o vs) d t.lines T o.zero (Constant (pos 0)) long kept
      (λ j h.
      let i = length d + j in
      let p = take i T in
      let p_length : length p ≡ i = length-take-le i T (omega arith) in
      let own : at o moved (length p) ≡ o.zero =
      ap (at o moved) p_length ∙ get_or-append_right d _ (length d) i o.zero refl (omega arith)
      ∙ get_or-replicate (length t.lines) (i - length d) o.zero o.zero (omega arith) in
      grow_at _ (take t.controls moved) t.lines j i o.zero (Constant (pos 0)) h (ap (λ k. k + j) first_length)
      ∙ ap (λ x. o.plus x (line_derivative o vs (line t j) p)) own ∙ laws.zero_plus _)

  -- gradient · d is the formal derivative along d
  pub gradient_along : (r : ℕ) (adjoint : List M) → r < registers t → length adjoint ≡ registers t → Transposes o vs t (unit o (registers t) r) adjoint
      → dot_product o (take t.controls adjoint) d ≡ at o (derivatives o vs d t.lines) r
  gradient_along r adjoint known long law =
      let n = t.controls in
      let zeros = replicate (length t.lines) o.zero in
      let front : length (take n adjoint) ≡ length d = length-take-le n adjoint (omega arith) ∙ sym d_is in
      let split : dot_product o adjoint moved ≡ o.plus (dot_product o (take n adjoint) d) (dot_product o (drop n adjoint) zeros) =
      ap (λ a. dot_product o a moved) (sym (take-append-drop n adjoint)) ∙ dot_append laws (take n adjoint) d (drop n adjoint) zeros front in
      let rest : dot_product o (drop n adjoint) zeros ≡ o.zero = dot_comm laws (drop n adjoint) zeros ∙ dot_zeros laws (length t.lines) (drop n adjoint) in
      sym (split ∙ ap (o.plus (dot_product o (take n adjoint) d)) rest ∙ plus_zero laws _) ∙ law moved moved_length
      ∙ dot_unit laws _ (registers t) r known (tangents_length o vs t moved moved_length) ∙ ap (λ T. at o T r) tangents_are

-- A row that begins like an adjoint row begins with the gradient.
pub gradient_of_row : {K M : Type 0} {o : Operations M} → Laws o → (means : K → M) (t : Tape) (r : ℕ) → r < registers t → (row part : List K) → length part ≡ registers t
    → take t.controls row ≡ take t.controls part → (cs : List M) → Transposes o (values o cs t.lines) t (unit o (registers t) r) (map means part)
    → IsGradient o t cs r (given means t row)
gradient_of_row {K} {M} {o} laws means t r known row part part_length begins cs law =
    let k = t.controls in
    let V = values o cs t.lines in
    let first : given means t row ≡ take k (map means part) = ap (map means) begins ∙ sym (take-map means k part) in
    let long : length (given means t row) ≡ k = ap length first ∙ length-take-le k (map means part) (rw (length-map part means) (omega (arith, part_length))) in
    let along : (d : List M) → length d ≡ k → dot_product o (given means t row) d ≡ at o (derivatives o V d t.lines) r = λ d e.
    ap (λ a. dot_product o a d) first ∙ gradient_along laws V t d e r (map means part) known (length-map part means ∙ part_length) law in
    record {
      long = long;
      along = along;
      entries = λ i h. entry_by_unit laws k i (given means t row) h long ∙ along (unit o k i) (unit_length o k i);
    }

-- After the walk over the part 0..N of an adjoint row.
module _ {K M : Type 0} {o : Operations M} (laws : Laws o) (means : K → M) (t : Tape) (r : ℕ) (known : r < registers t) (before part : List K) (n : ℕ) (n_is : n ≡ registers t)
    (within : n ≤ length before) (same_length : length part ≡ length (take n before)) where
  abbrev after : List K
  after = part ++ drop n before

  part_length : length part ≡ registers t
  part_length = same_length ∙ simp length-take (omega arith)

  pub adjoint_is : (vs : List M) → Transposes o vs t (unit o (registers t) r) (map means part) → Adjoint o means t vs r before (part ++ drop n before)
  adjoint_is vs law =
      let N = registers t in
      let all : take N after ≡ part = take_at part _ N part_length in
      let whole : take N part ≡ part = take_all N part (omega (arith, part_length)) in
      record {
        transposes = subst (λ a. Transposes o vs t (unit o N r) (map means a)) (sym all) law;
        entries = λ q h.
            let row_length : length (map means part) ≡ N = length-map part means ∙ part_length in
            let first : at o (map means after) q ≡ at o (map means part) q =
            agree_below o N _ _ (take-map means N after ∙ ap (map means) (all ∙ sym whole) ∙ sym (take-map means N part)) q (lt-leb N q h) in
            first ∙ entry_by_unit laws N q (map means part) h row_length ∙ law (unit o N q) (unit_length o N q)
            ∙ dot_unit laws _ N r known (tangents_length o vs t (unit o N q) (unit_length o N q));
        later = drop-append-drop n before part N (omega arith) (omega (arith, part_length));
      }

  pub gradient_is : (cs : List M) → Transposes o (values o cs t.lines) t (unit o (registers t) r) (map means part)
      → IsGradient o t cs r (given means t (part ++ drop n before))
  gradient_is cs law = gradient_of_row laws means t r known after part part_length (take-append-le t.controls part _ (omega (arith, part_length))) cs law
