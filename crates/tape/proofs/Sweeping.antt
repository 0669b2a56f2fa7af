-- How stale lines are worked out, line by line. Assumes nothing.
use Rattle.std.proofs.Common.{◌≡◌, ℕ, ◌+◌, ◌<◌, ◌≤◌, Bool, true, false, leb, ◌≢◌, List, map, length, set, sym, ap, ◌∙◌, subst, ⊎_elim, arith, length-set}
use lib.ListN.{length-map}
use Rattle.std.proofs.lemmas.Bool.{leb-false, cases_lt, true≢false}
use Rattle.std.proofs.lemmas.List.{get_or-set_same, get_or-set_other, map-set}
use Rattle.std.proofs.lemmas.List.Sums.{count_by_more_yes, count_by_more_no}
use Rattle.kind.specs.Kinds.{Operations}
use Rattle.tape.specs.Lines.{Below}
use Rattle.tape.specs.Marks.{mark, Swept}
use Rattle.tape.specs.Rows.{at}
use Rattle.tape.specs.Tapes.{Tape, line}
use Rattle.tape.specs.Values.{applied}
use Rattle.tape.proofs.Reading.{applied_agree}

module _ {K M : Type 0} (o : Operations M) (means : K → M) where
  -- the meaning of a register's number
  abbrev number : List K → ℕ → M
  number row = at o (map means row)

  pub number_same : (row : List K) (i : ℕ) (x : K) → i < length row → number (set row i x) i ≡ means x
  number_same row i x within =
      let fits : i < length (map means row) = simp length-map within in
      ap (λ r. at o r i) (map-set means row i x) ∙ get_or-set_same (map means row) i (means x) o.zero fits

  pub number_other : (row : List K) (i k : ℕ) (x : K) → k ≢ i → number (set row i x) k ≡ number row k
  number_other row i k x other = ap (λ r. at o r k) (map-set means row i x) ∙ get_or-set_other (map means row) i k (means x) o.zero other

  module _ (t : Tape) (j : ℕ) (row₀ row : List K) (marks now : List Bool) (worked : ℕ) (in_marks : j < length marks) where
    -- line j is not stale: it stands
    pub swept_over : mark now j ≡ false → Swept o means t j row₀ marks row now worked → Swept o means t (j + 1) row₀ marks row now worked
    swept_over unmarked so_far = record {
      done = λ i h marked. ⊎_elim
          (λ (before : i < j). so_far.done i before marked)
          (λ (here : j ≤ i). let same : j ≡ i = omega arith in absurd (true≢false (sym marked ∙ ap (mark marks) (sym same) ∙ clean)))
          (cases_lt i j);
      kept = λ k d standing. so_far.kept k d (λ i h e. standing i (omega arith) e);
      room = so_far.room;
      long = so_far.long;
      clear = λ i h. ⊎_elim
          (λ (before : i < j). so_far.clear i before)
          (λ (here : j ≤ i). let same : j ≡ i = omega arith in ap (mark now) (sym same) ∙ unmarked)
          (cases_lt i j);
      above = λ i h. so_far.above i (omega arith);
      count = so_far.count ∙ sym (count_by_more_no (λ b. b) marks j false in_marks clean);
    }
      where
        clean : mark marks j ≡ false
        clean = sym (so_far.above j (omega arith)) ∙ unmarked

    -- line j is stale: it is worked out
    pub swept_next : (x : K) → t.controls + j < length row → j < length now → mark now j ≡ true
        → ((i : ℕ) → i < j + 1 → Below (t.controls + i) (line t i))
        → means x ≡ applied o (number row) (line t j)
        → Swept o means t j row₀ marks row now worked
        → Swept o means t (j + 1) row₀ marks (set row (t.controls + j) x) (set now j false) (worked + 1)
    swept_next x in_row in_now marked below value so_far = record {
      done = λ i h stale. ⊎_elim
          (λ (before : i < j).
          let other : n + i ≢ n + j = omega arith in
          number_other row (n + j) (n + i) x other ∙ so_far.done i before stale ∙ sees i h)
          (λ (here : j ≤ i). let same : j ≡ i = omega arith in subst Right same (number_same row (n + j) x in_row ∙ value ∙ sees j (omega arith)))
          (cases_lt i j);
      kept = λ k d standing.
          let other : k ≢ n + j = λ e. true≢false (sym was ∙ standing j (omega arith) e) in
          get_or-set_other row (n + j) k x d other ∙ so_far.kept k d (λ i h e. standing i (omega arith) e);
      room = length-set row (n + j) x ∙ so_far.room;
      long = simp length-set so_far.long;
      clear = λ i h. ⊎_elim
          (λ (before : i < j). let other : i ≢ j = omega arith in get_or-set_other now j i false false other ∙ so_far.clear i before)
          (λ (here : j ≤ i). let same : j ≡ i = omega arith in ap (mark (set now j false)) (sym same) ∙ get_or-set_same now j false false in_now)
          (cases_lt i j);
      above = λ i h. let other : i ≢ j = omega arith in get_or-set_other now j i false false other ∙ so_far.above i (omega arith);
      count = ap (λ w. w + 1) so_far.count ∙ sym (count_by_more_yes (λ b. b) marks j false in_marks was);
    }
      where
        n : ℕ
        n = t.controls

        was : mark marks j ≡ true
        was = sym (so_far.above j (omega arith)) ∙ marked

        Right : ℕ → Type 0
        Right i = number (set row (n + j) x) (n + i) ≡ applied o (number (set row (n + j) x)) (line t i)

        sees : (i : ℕ) → i < j + 1 → applied o (number row) (line t i) ≡ applied o (number (set row (n + j) x)) (line t i)
        sees i low =
            applied_agree o (leb (n + i)) _ _
            (λ k h. let other : k ≢ n + j = omega (arith, leb-false (n + i) k h) in sym (number_other row (n + j) k x other))
            (line t i) (below i low)
