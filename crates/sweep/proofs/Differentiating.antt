-- Evaluation in pairs: the tangents are the formal derivative. Assumes nothing.
use Rattle.std.proofs.Common.{◌≡◌, ℕ, ◌+◌, leb, List, map, length, take, pos, sym, refl, ap, ◌∙◌, subst, ap₂, arith}
use lib.ListN.{get_or-map}
use Rattle.std.proofs.lemmas.List.{length-map, take-map, take-take}
use Rattle.kind.specs.Dual.{Dual, dual_operations}
use Rattle.kind.specs.Kinds.{Operations, Laws}
use Rattle.tape.specs.declared.lines.Line.{Line}
use Rattle.tape.specs.declared.lines.Line.TheVariants.{Constant, Add, Subtract, Multiply, Opposite}
use Rattle.tape.specs.Derivatives.{derivatives, line_derivative}
use Rattle.tape.specs.Lines.{Below}
use Rattle.tape.specs.Rows.{at}
use Rattle.tape.specs.Tapes.{Tape, Valid, line}
use Rattle.tape.specs.Values.{line_value, values}
use Rattle.tape.proofs.Growing.{grow_at, grow_keeps, grow_length, grow_map, grown}
use Rattle.tape.proofs.Reading.{agree_below, differential_agree}
use Rattle.sweep.specs.Forward.{paired}
use Rattle.sweep.proofs.Pairing.{paired_length, paired_tangents, paired_values}

-- The parts of a pair's values.
module _ {M : Type 0} (o : Operations M) where
  pub value_at : (row : List (Dual M)) (i : ℕ) → (at (dual_operations o) row i).value ≡ at o (map (λ p. p.value) row) i
  value_at row i = sym (get_or-map (λ p. p.value) row i (dual_operations o).zero)

  pub tangent_at : (row : List (Dual M)) (i : ℕ) → (at (dual_operations o) row i).tangent ≡ at o (map (λ p. p.tangent) row) i
  tangent_at row i = sym (get_or-map (λ p. p.tangent) row i (dual_operations o).zero)

  value_part : (l : Line) (row : List (Dual M)) → (line_value (dual_operations o) l row).value ≡ line_value o l (map (λ p. p.value) row)
  value_part (Constant c) row = refl
  value_part (Add a b) row = ap₂ o.plus (value_at row a) (value_at row b)
  value_part (Subtract a b) row = ap₂ (λ x y. o.plus x (o.opposite y)) (value_at row a) (value_at row b)
  value_part (Multiply a b) row = ap₂ o.times (value_at row a) (value_at row b)
  value_part (Opposite a) row = ap o.opposite (value_at row a)

module _ {M : Type 0} {o : Operations M} (laws : Laws o) where
  value_tangent : (l : Line) (row : List (Dual M)) → (line_value (dual_operations o) l row).tangent ≡ line_derivative o (map (λ p. p.value) row) l (map (λ p. p.tangent) row)
  value_tangent (Constant c) row = refl
  value_tangent (Add a b) row = ap₂ o.plus (tangent_at o row a) (tangent_at o row b)
  value_tangent (Subtract a b) row = ap₂ (λ x y. o.plus x (o.opposite y)) (tangent_at o row a) (tangent_at o row b)
  value_tangent (Multiply a b) row =
      ap₂ o.plus
      (ap₂ o.times (value_at o row a) (tangent_at o row b))
      (laws.times_comm _ _ ∙ ap₂ o.times (value_at o row b) (tangent_at o row a))
  value_tangent (Opposite a) row = ap o.opposite (tangent_at o row a)

module _ {M : Type 0} {o : Operations M} (laws : Laws o) (t : Tape) (valid : Valid t) (cs : List (Dual M)) (cs_is : length cs ≡ t.controls) where
  abbrev pairs : List (Dual M)
  pairs = values (dual_operations o) cs t.lines

  abbrev vs : List M
  vs = values o (map (λ p. p.value) cs) t.lines

  pub pair_values : map (λ p. p.value) (values (dual_operations o) cs t.lines) ≡ values o (map (λ p. p.value) cs) t.lines
  pair_values = grow_map (λ p. p.value) (line_value (dual_operations o)) (line_value o) (value_part o) cs t.lines

  pub pair_tangents : map (λ p. p.tangent) (values (dual_operations o) cs t.lines)
      ≡ derivatives o (values o (map (λ p. p.value) cs) t.lines) (map (λ p. p.tangent) cs) t.lines
  pair_tangents =
      let tangent = λ (p : Dual M). p.tangent in
      let value_of_lem = λ (p : Dual M). p.value in
      let d = map tangent cs in
      let d_is : length d ≡ t.controls = length-map cs tangent ∙ cs_is in
      let long : length (map tangent pairs) ≡ length d + length t.lines =
      length-map pairs tangent ∙ grow_length (line_value (dual_operations o)) cs t.lines ∙ ap (λ n. n + length t.lines) (sym (length-map cs tangent)) in
      let kept : take (length d) (map tangent pairs) ≡ d =
      take-map tangent (length d) pairs ∙ ap (λ n. map tangent (take n pairs)) (length-map cs tangent) ∙ ap (map tangent) (grow_keeps (line_value (dual_operations o)) cs t.lines) in
      grown (line_derivative o vs) d t.lines (map tangent pairs) o.zero (Constant (pos 0)) long kept
      (λ j h.
      let i = length d + j in
      let l = line t j in
      let p = take i pairs in
      let reads : Below i l = subst (λ k. Below k l) (omega arith) (valid.below j h) in
      let values_same : take i (map value_of_lem p) ≡ take i vs =
      ap (take i) (sym (take-map value_of_lem i pairs)) ∙ take-take i i (map value_of_lem pairs) (omega arith) ∙ ap (take i) pair_values in
      sym (tangent_at o pairs i)
      ∙ ap tangent (grow_at (line_value (dual_operations o)) cs t.lines j i (dual_operations o).zero (Constant (pos 0)) h (omega (arith, length-map cs tangent)))
      ∙ value_tangent laws l p
      ∙ differential_agree o (leb i) _ (at o vs) _ _ (agree_below o i _ vs values_same) (λ k low. refl) l reads
      ∙ ap (line_derivative o vs l) (sym (take-map tangent i pairs)))

-- The tangent that a sweep in pairs answers.
pub slope_is : {M : Type 0} {o : Operations M} → Laws o → (t : Tape) → Valid t → (cs ds : List M) → length cs ≡ t.controls → length ds ≡ t.controls → (r : ℕ)
    → (at (dual_operations o) (values (dual_operations o) (paired cs ds) t.lines) r).tangent ≡ at o (derivatives o (values o cs t.lines) ds t.lines) r
slope_is {M} {o} laws t valid cs ds cs_is ds_is r =
    let same : length ds ≡ length cs = omega arith in
    tangent_at o (values (dual_operations o) (paired cs ds) t.lines) r
    ∙ ap (λ s. at o s r) (pair_tangents laws t valid (paired cs ds) (paired_length cs ds same ∙ cs_is))
    ∙ ap₂ (λ c d. at o (derivatives o (values o c t.lines) d t.lines) r) (paired_values cs ds same) (paired_tangents cs ds same)
