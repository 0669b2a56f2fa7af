-- The gradient in pairs: its tangents are the second derivative. Assumes nothing.
use Rattle.std.proofs.Common.{◌≡◌, ℕ, ◌+◌, ◌≤◌, leb, List, [], ◌∷◌, ◌++◌, map, length, take, drop, replicate, pos, sym, refl, ap, ◌∙◌, subst, ap₂, arith, length-take}
use mathlib.Core.Path.{fun_ext}
use lib.ListN.{length-replicate}
use Rattle.std.proofs.lemmas.List.{length-map, take_at, take-map, take-take}
use Rattle.std.proofs.lemmas.Slice.{drop-append-drop}
use Rattle.kind.specs.Algebra.{multiplied, times_zero}
use Rattle.kind.specs.declared.dual.Pair.{Pair}
use Rattle.kind.specs.Dual.{Dual, dual, dual_operations}
use Rattle.kind.specs.Kinds.{Operations, Laws}
use Rattle.kind.specs.Rows.{dot_product}
use Rattle.tape.specs.declared.lines.Line.{Line}
use Rattle.tape.specs.declared.lines.Line.TheVariants.{Constant, Add, Subtract, Multiply, Opposite}
use Rattle.tape.specs.Derivatives.{derivatives, line_derivative, line_second, second_derivatives}
use Rattle.tape.specs.Lines.{Below}
use Rattle.tape.specs.Rows.{at, grow, unit}
use Rattle.tape.specs.Tapes.{Tape, Valid, line}
use Rattle.tape.specs.Values.{values}
use Rattle.tape.proofs.Growing.{grow_at, grow_keeps, grow_length, grow_map, grown}
use Rattle.tape.proofs.Reading.{agree_below, second_differential_agree}
use Rattle.sweep.specs.Forward.{given, paired}
use Rattle.sweep.specs.Queries.{IsBend, IsGradient}
use Rattle.sweep.proofs.Differentiating.{pair_tangents, pair_values, tangent_at, value_at}
use Rattle.sweep.proofs.Gradients.{entry_by_unit, unit_length}
use Rattle.sweep.proofs.Pairing.{paired_length, paired_tangents, paired_values}

-- The parts of a pair's differentials.
module _ {M : Type 0} (o : Operations M) where
  derivative_value : (vs : List (Dual M)) (l : Line) (row : List (Dual M))
      → (line_derivative (dual_operations o) vs l row).value ≡ line_derivative o (map (λ p. p.value) vs) l (map (λ p. p.value) row)
  derivative_value vs (Constant c) row = refl
  derivative_value vs (Add a b) row = ap₂ o.plus (value_at o row a) (value_at o row b)
  derivative_value vs (Subtract a b) row = ap₂ (λ x y. o.plus x (o.opposite y)) (value_at o row a) (value_at o row b)
  derivative_value vs (Multiply a b) row =
      ap₂ o.plus (ap₂ o.times (value_at o vs a) (value_at o row b)) (ap₂ o.times (value_at o vs b) (value_at o row a))
  derivative_value vs (Opposite a) row = ap o.opposite (value_at o row a)

module _ {M : Type 0} {o : Operations M} (laws : Laws o) where
  regroup : (a a' b b' p p' q q' : M) →
      o.plus (o.plus (o.times a q') (o.times a' q)) (o.plus (o.times b p') (o.times b' p))
      ≡ o.plus (o.plus (o.plus (o.times a q') (o.times a' q)) (o.times p b')) (o.times b p')
  regroup a a' b b' p p' q q' = simp multiplied

  derivative_tangent : (vs : List (Dual M)) (l : Line) (row : List (Dual M)) → (line_derivative (dual_operations o) vs l row).tangent
      ≡ line_second o (map (λ p. p.value) vs) (map (λ p. p.tangent) vs) (map (λ p. p.value) row) l (map (λ p. p.tangent) row)
  derivative_tangent vs (Constant c) row = refl
  derivative_tangent vs (Add a b) row = ap₂ o.plus (tangent_at o row a) (tangent_at o row b)
  derivative_tangent vs (Subtract a b) row = ap₂ (λ x y. o.plus x (o.opposite y)) (tangent_at o row a) (tangent_at o row b)
  derivative_tangent vs (Multiply a b) row =
      ap₂ o.plus
      (ap₂ o.plus (ap₂ o.times (value_at o vs a) (tangent_at o row b)) (ap₂ o.times (tangent_at o vs a) (value_at o row b)))
      (ap₂ o.plus (ap₂ o.times (value_at o vs b) (tangent_at o row a)) (ap₂ o.times (tangent_at o vs b) (value_at o row a)))
      ∙ regroup _ _ _ _ _ _ _ _
  derivative_tangent vs (Opposite a) row = ap o.opposite (tangent_at o row a)

-- A number that does not move.
abbrev still : {M : Type 0} → Operations M → M → Dual M
still o x = record { value = x; tangent = o.zero }

still_values : {M : Type 0} (o : Operations M) (xs : List M) → map (λ p. p.value) (map (still o) xs) ≡ xs
still_values o [] = refl
still_values o (x ∷ xs) = ap (λ r. x ∷ r) (still_values o xs)

still_tangents : {M : Type 0} (o : Operations M) (xs : List M) → map (λ p. p.tangent) (map (still o) xs) ≡ replicate (length xs) o.zero
still_tangents o [] = refl
still_tangents o (x ∷ xs) = ap (λ r. o.zero ∷ r) (still_tangents o xs)

dot_still : {M : Type 0} {o : Operations M} → Laws o → (xs : List (Dual M)) (ys : List M)
    → (dot_product (dual_operations o) xs (map (still o) ys)).tangent ≡ dot_product o (map (λ p. p.tangent) xs) ys
dot_still laws [] ys = refl
dot_still laws (x ∷ xs) [] = refl
dot_still {M} {o} laws (x ∷ xs) (y ∷ ys) =
    ap₂ o.plus (ap (λ z. o.plus z (o.times x.tangent y)) (times_zero laws x.value) ∙ laws.zero_plus _) (dot_still laws xs ys)

-- The pairs' derivative along (e, 0): its tangents are the second derivative along the pairs' tangents and e.
module _ {M : Type 0} {o : Operations M} (laws : Laws o) (t : Tape) (valid : Valid t) (cs : List (Dual M)) (cs_is : length cs ≡ t.controls)
    (e : List M) (e_is : length e ≡ t.controls) where
  abbrev pairs : List (Dual M)
  pairs = values (dual_operations o) cs t.lines

  abbrev vs : List M
  vs = values o (map (λ p. p.value) cs) t.lines

  abbrev start : List (Dual M)
  start = map (still o) e

  abbrev tangents : List (Dual M)
  tangents = derivatives (dual_operations o) pairs start t.lines

  tangent_values : map (λ p. p.value) tangents ≡ derivatives o vs e t.lines
  tangent_values =
      grow_map (λ p. p.value) (line_derivative (dual_operations o) pairs) (line_derivative o (map (λ p. p.value) pairs)) (derivative_value o pairs) start t.lines
      ∙ ap₂ (λ v s. derivatives o v s t.lines) (pair_values laws t valid cs cs_is) (still_values o e)

  tangent_tangents : map (λ p. p.tangent) tangents ≡ second_derivatives o vs (map (λ p. p.tangent) cs) e t.lines
  tangent_tangents =
      let tangent = λ (p : Dual M). p.tangent in
      let value_of_lem = λ (p : Dual M). p.value in
      let d = map tangent cs in
      let ds = derivatives o vs d t.lines in
      let es = derivatives o vs e t.lines in
      let zeros = replicate (length d) o.zero in
      let zeros_length : length zeros ≡ t.controls = length-replicate (length d) o.zero ∙ length-map cs tangent ∙ cs_is in
      let start_length : length start ≡ t.controls = length-map e (still o) ∙ e_is in
      let starts : map tangent start ≡ zeros = still_tangents o e ∙ ap (λ n. replicate n o.zero) (e_is ∙ sym (length-map cs tangent ∙ cs_is)) in
      let long : length (map tangent tangents) ≡ length zeros + length t.lines =
      length-map tangents tangent ∙ grow_length (line_derivative (dual_operations o) pairs) start t.lines ∙ ap (λ n. n + length t.lines) (start_length ∙ sym zeros_length) in
      let kept : take (length zeros) (map tangent tangents) ≡ zeros =
      take-map tangent (length zeros) tangents ∙ ap (λ n. map tangent (take n tangents)) (zeros_length ∙ sym start_length)
      ∙ ap (map tangent) (grow_keeps (line_derivative (dual_operations o) pairs) start t.lines) ∙ starts in
      grown (line_second o vs ds es) zeros t.lines (map tangent tangents) o.zero (Constant (pos 0)) long kept
      (λ j h.
      let i = length zeros + j in
      let l = line t j in
      let p = take i tangents in
      let reads : Below i l = subst (λ k. Below k l) (omega arith) (valid.below j h) in
      let es_same : take i (map value_of_lem p) ≡ take i es =
      ap (take i) (sym (take-map value_of_lem i tangents)) ∙ take-take i i (map value_of_lem tangents) (omega arith) ∙ ap (take i) tangent_values in
      sym (tangent_at o tangents i)
      ∙ ap tangent (grow_at (line_derivative (dual_operations o) pairs) start t.lines j i (dual_operations o).zero (Constant (pos 0)) h (omega arith))
      ∙ derivative_tangent laws pairs l p
      ∙ ap₂ (λ v s. line_second o v s (map value_of_lem p) l (map tangent p)) (pair_values laws t valid cs cs_is) (pair_tangents laws t valid cs cs_is)
      ∙ second_differential_agree o (leb i) _ _ _ _ _ (agree_below o i (map value_of_lem p) es es_same) l reads
      ∙ ap (line_second o vs ds es l) (sym (take-map tangent i tangents)))

  -- bend · e is the second derivative
  pub bend_along : (r : ℕ) (g : List (Dual M)) → IsGradient (dual_operations o) t cs r g
      → dot_product o (map (λ p. p.tangent) g) e
      ≡ at o (second_derivatives o (values o (map (λ p. p.value) cs) t.lines) (map (λ p. p.tangent) cs) e t.lines) r
  bend_along r g gradient =
      sym (dot_still laws g e)
      ∙ ap (λ p. p.tangent) (gradient.along start (length-map e (still o) ∙ e_is))
      ∙ tangent_at o tangents r
      ∙ ap (λ s. at o s r) tangent_tangents

-- The second derivative does not depend on the order of its directions.
module _ {M : Type 0} {o : Operations M} (laws : Laws o) where
  line_turns : (vs ds es : List M) (l : Line) (ss : List M) → line_second o vs ds es l ss ≡ line_second o vs es ds l ss
  line_turns vs ds es (Constant c) ss = refl
  line_turns vs ds es (Add a b) ss = refl
  line_turns vs ds es (Subtract a b) ss = refl
  line_turns vs ds es (Multiply a b) ss =
      ap (λ x. o.plus x (o.times (at o vs b) (at o ss a)))
      (laws.plus_assoc _ _ _ ∙ ap (o.plus (o.times (at o vs a) (at o ss b))) (laws.plus_comm _ _) ∙ sym (laws.plus_assoc _ _ _))
  line_turns vs ds es (Opposite a) ss = refl

  second_turns : (vs d e : List M) (ls : List Line) → length d ≡ length e → second_derivatives o vs d e ls ≡ second_derivatives o vs e d ls
  second_turns vs d e ls same =
      ap₂ (λ f n. grow f (replicate n o.zero) ls) (fun_ext (λ l. fun_ext (line_turns vs (derivatives o vs d ls) (derivatives o vs e ls) l))) same

-- What the pairs' tangents mean, and the meanings' tangents.
tangents_mean : {K M : Type 0} (means : K → M) (ps : List (Pair K)) → map means (map (λ p. p.tangent) ps) ≡ map (λ p. p.tangent) (map (dual means) ps)
tangents_mean means [] = refl
tangents_mean means (p ∷ ps) = ap (λ r. means p.tangent ∷ r) (tangents_mean means ps)

-- The tangents of a gradient in pairs are a bend.
pub bend_is : {M : Type 0} {o : Operations M} → Laws o → (t : Tape) → Valid t → (cs ds : List M) → length cs ≡ t.controls → length ds ≡ t.controls → (r : ℕ) (g : List (Dual M))
    → IsGradient (dual_operations o) t (paired cs ds) r g → IsBend o t cs ds r (map (λ p. p.tangent) g)
bend_is {M} {o} laws t valid cs ds cs_is ds_is r g gradient =
    let n = t.controls in
    let V = values o cs t.lines in
    let b = map (λ p. p.tangent) g in
    let same : length ds ≡ length cs = omega arith in
    let long : length b ≡ n = length-map g (λ p. p.tangent) ∙ gradient.long in
    let along : (e : List M) → length e ≡ n → dot_product o b e ≡ at o (second_derivatives o V ds e t.lines) r = λ e e_is.
    bend_along laws t valid (paired cs ds) (paired_length cs ds same ∙ cs_is) e e_is r g gradient
    ∙ ap₂ (λ c d. at o (second_derivatives o (values o c t.lines) d e t.lines) r) (paired_values cs ds same) (paired_tangents cs ds same) in
    record {
      long = long;
      along = along;
      turned = λ e e_is. along e e_is ∙ ap (λ s. at o s r) (second_turns laws V ds e t.lines (ds_is ∙ sym e_is));
      entries = λ i h. entry_by_unit laws n i b h long ∙ along (unit o n i) (unit_length o n i);
    }

-- What stands in a row to whose part 0..n the tangents were copied.
module _ {K M : Type 0} (means : K → M) (t : Tape) (out part : List K) (n : ℕ) (n_is : n ≡ t.controls) (within : n ≤ length out) where
  part_size : length (take n out) ≡ t.controls
  part_size = simp length-take (omega arith)

  pub bend_written : {o : Operations M} {cs ds : List M} {r : ℕ} (pairs : List (Pair K)) → part ≡ map (λ p. p.tangent) (take (length (take n out)) pairs)
      → IsBend o t cs ds r (map (λ p. p.tangent) (given (dual means) t pairs)) → IsBend o t cs ds r (given means t (part ++ drop n out))
  bend_written pairs copied bend =
      let all : part ≡ map (λ p. p.tangent) (take t.controls pairs) = copied ∙ ap (λ k. map (λ p. p.tangent) (take k pairs)) part_size in
      let mean : map means part ≡ map (λ p. p.tangent) (given (dual means) t pairs) = ap (map means) all ∙ tangents_mean means (take t.controls pairs) in
      let long : length part ≡ t.controls = sym (length-map part means) ∙ ap length mean ∙ bend.long in
      subst (IsBend _ t _ _ _) (sym (ap (map means) (take_at part _ t.controls long) ∙ mean)) bend

  pub later_written : length part ≡ length (take n out) → drop t.controls (part ++ drop n out) ≡ drop t.controls out
  later_written long =
      let size = part_size in
      drop-append-drop n out part t.controls (omega arith) (omega arith)
