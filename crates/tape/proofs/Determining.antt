-- A rule that sees only the registers that a line reads determines its row. Assumes nothing.
use Rattle.std.proofs.Common.{◌≡◌, ℕ, ◌+◌, ◌-◌, Bool, false, leb, List, [], ◌∷◌, ◌++◌, length, take, pos, sym, refl, ap, ◌∙◌, subst, arith}
use Rattle.std.proofs.lemmas.List.{length-take-le, take_all, take-take}
use Rattle.kind.specs.Kinds.{Operations}
use Rattle.tape.specs.declared.lines.Line.{Line}
use Rattle.tape.specs.declared.lines.Line.TheVariants.{Constant}
use Rattle.tape.specs.Laws.{Determined, row_by}
use Rattle.tape.specs.Lines.{Below, reads}
use Rattle.tape.specs.Rows.{at, grow}
use Rattle.tape.specs.Tapes.{line}
use Rattle.tape.proofs.Growing.{grow_at, grow_keeps, grow_length, grow_to, grown}
use Rattle.tape.proofs.Reading.{agree_below}

-- the rule sees only the registers that a line reads
abbrev pub Local : {M : Type 0} → ((ℕ → M) → Line → M) → Type 0
Local {M} rule = (bad : ℕ → Bool) (v w : ℕ → M) → ((k : ℕ) → bad k ≡ false → v k ≡ w k) → (l : Line) → reads l bad ≡ false → rule v l ≡ rule w l

grow_push : {M : Type 0} (f : Line → List M → M) (start : List M) (lines : List Line) (l : Line) → grow f start (lines ++ (l ∷ [])) ≡ grow f start lines ++ (f l (grow f start lines) ∷ [])
grow_push f start [] l = refl
grow_push f start (k ∷ lines) l = grow_push f (start ++ (f k start ∷ [])) lines l

module _ {M : Type 0} (o : Operations M) (rule : (ℕ → M) → Line → M) (local : Local rule) where
  abbrev step : Line → List M → M
  step l row = rule (at o row) l

  -- over the entries below its own, a line comes to the same as over the whole row
  front : (k : ℕ) (row : List M) (l : Line) → Below k l → step l (take k row) ≡ step l row
  front k row l below = local (leb k) _ _ (agree_below o k (take k row) row (take-take k k row (omega arith))) l below

  pub determined : Determined o rule
  determined = record {
    consistent = λ t valid start start_is.
        let row = row_by o rule start t.lines in
        record {
          long = grow_length step start t.lines ∙ ap (λ n. n + length t.lines) start_is;
          begins = ap (λ n. take n row) (sym start_is) ∙ grow_keeps step start t.lines;
          each = λ j h. grow_at step start t.lines j (t.controls + j) o.zero (Constant (pos 0)) h (ap (λ n. n + j) start_is)
              ∙ front (t.controls + j) row (line t j) (valid.below j h);
        };
    only = λ t valid start row is.
        let start_is : length start ≡ t.controls = sym (ap length is.begins) ∙ length-take-le t.controls row (omega (arith, is.long)) in
        grown step start t.lines row o.zero (Constant (pos 0)) (is.long ∙ ap (λ n. n + length t.lines) (sym start_is)) (ap (λ n. take n row) start_is ∙ is.begins)
        (λ j h. subst (λ n. at o row (n + j) ≡ step (line t j) (take (n + j) row)) (sym start_is) (is.each j h ∙ sym (front (t.controls + j) row (line t j) (valid.below j h))));
    extended = grow_push step;
    earlier = λ start lines k h. grow_to step start lines k ∙ ap (λ r. grow step r (take (k - length start) lines)) (take_all k start h);
  }
