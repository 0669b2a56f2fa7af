-- A session in order, with no stale line up to a register, holds the straight-line values up to it. Assumes nothing.
use Rattle.std.proofs.Common.{◌≡◌, ℕ, ◌+◌, ◌-◌, ◌<◌, ◌≤◌, false, leb, List, map, length, take, pos, sym, ap, ◌∙◌, subst, arith}
use native.Mathlib.Decide.{dec_le}
use Rattle.std.proofs.lemmas.List.{get_or-take, take-map, take-take, length-map, length-take-le}
use Rattle.kind.specs.Kinds.{Operations}
use Rattle.tape.specs.declared.lines.Line.{Line}
use Rattle.tape.specs.declared.lines.Line.TheVariants.{Constant}
use Rattle.tape.specs.Lines.{Below}
use Rattle.tape.specs.Marks.{mark}
use Rattle.tape.specs.Rows.{at}
use Rattle.tape.specs.Tapes.{nth, line, registers, ReadsBelow}
use Rattle.tape.specs.Values.{applied, values}
use Rattle.tape.proofs.Growing.{same_to, grow_length, grow_at, grow_old}
use Rattle.tape.proofs.Reading.{applied_agree, agree_below}
use Rattle.session.specs.Books.{worth}
use Rattle.session.specs.Runs.{book, Good}
use Rattle.session.specs.States.{State}

module _ {M : Type 0} (o : Operations M) where
  -- a row that begins with the controls, and whose lines are right below register k, holds the values below k
  pub values_are : (front : List M) (lines : List Line) (row : List M) (k : ℕ) → k ≤ length front + length lines → k ≤ length row → ReadsBelow (length front) lines
      → ((i : ℕ) → i < length front → at o front i ≡ at o row i)
      → ((j : ℕ) → j < length lines → length front + j < k → at o row (length front + j) ≡ applied o (at o row) (nth lines j))
      → take k (values o front lines) ≡ take k row
  values_are front lines row k within full below controls right =
      same_to k V row o.zero (rw (grow_length rule front lines) within) full
      (λ i h before. elim (dec_le n i) [ yes past ↦ at_line i h before past | no front_of ↦ grow_old rule front lines i o.zero (omega arith) ∙ controls i (omega arith) ])
    where
      n : ℕ
      n = length front

      rule : Line → List M → M
      rule l r = applied o (at o r) l

      V : List M
      V = values o front lines

      at_line : (i : ℕ) → i < k → take i V ≡ take i row → n ≤ i → at o V i ≡ at o row i
      at_line i h before past =
          let back : n + (i - n) ≡ i = omega arith in
          let there : i - n < length lines = omega arith in
          let low = subst (λ m. Below m (nth lines (i - n))) back (below (i - n) there) in
          let here = subst (λ m. at o row m ≡ applied o (at o row) (nth lines (i - n))) back (right (i - n) there (omega arith)) in
          let again : take i (take i V) ≡ take i row = take-take i i V (omega arith) ∙ before in
          grow_at rule front lines (i - n) i o.zero (Constant (pos 0)) there back
          ∙ applied_agree o (leb i) (at o (take i V)) (at o row) (agree_below o i (take i V) row again) (nth lines (i - n)) low
          ∙ sym here

  module _ {K : Type 0} (means : K → M) (s : State K) (k : ℕ) (below : ReadsBelow s.tape.controls s.tape.lines) (good : Good o means s)
      (clear : (j : ℕ) → s.tape.controls + j ≤ k → mark s.marks j ≡ false) (there : k < registers s.tape) where
    -- the kept numbers up to register k mean the values of the book
    pub row_is : take (k + 1) (values o (book o means s).controls s.tape.lines) ≡ take (k + 1) (map means s.row)
    row_is =
        values_are front s.tape.lines (map means s.row) (k + 1) (omega (arith, long)) (omega (arith, good.fits, length-map s.row means))
        (subst (λ n. ReadsBelow n s.tape.lines) (sym long) below)
        (λ i low. ap (λ row. at o row i) (sym (take-map means s.tape.controls s.row)) ∙ get_or-take s.tape.controls (map means s.row) i o.zero (omega (arith, long)))
        (λ j h under. subst (λ n. at o (map means s.row) (n + j) ≡ applied o (at o (map means s.row)) (line s.tape j)) (sym long) (good.right j h (clear j (omega (arith, long)))))
      where
        front : List M
        front = (book o means s).controls

        long : length front ≡ s.tape.controls
        long = length-map (take s.tape.controls s.row) means ∙ length-take-le s.tape.controls s.row (omega (arith, good.fits))

    pub worth_is : worth o (book o means s) k ≡ at o (map means s.row) k
    worth_is =
        sym (get_or-take (k + 1) (values o (book o means s).controls s.tape.lines) k o.zero (omega arith))
        ∙ ap (λ row. at o row k) row_is ∙ get_or-take (k + 1) (map means s.row) k o.zero (omega arith)
