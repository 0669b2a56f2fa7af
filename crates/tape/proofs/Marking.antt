-- What marks say of registers, and what a spread spares. Assumes nothing.
use Rattle.std.proofs.Common.{◌≡◌, ℕ, zero, suc, ◌+◌, ◌-◌, ◌<◌, Bool, true, false, ◌&&◌, eqb, leb, List, [], ◌∷◌, length, set, sym, refl, ap, ◌∙◌, arith}
use Rattle.std.proofs.lemmas.Bool.{leb-true, le-leb, or_parts}
use Rattle.tape.specs.declared.lines.Line.{Line}
use Rattle.tape.specs.Lines.{reads}
use Rattle.tape.specs.Marks.{mark, stale_register, touched, Spread}
use Rattle.tape.specs.Tapes.{Tape, line}
use Rattle.tape.proofs.Reading.{reads_fewer}

-- a line's register is as stale as the line is marked
pub stale_at : (n j : ℕ) (marks : List Bool) → stale_register n marks (n + j) ≡ mark marks j
stale_at n j marks =
    let from : leb n (n + j) ≡ true = le-leb n (n + j) (omega arith) in
    let back : n + j - n ≡ j = omega arith in
    ap (λ t. t && mark marks (n + j - n)) from ∙ ap (mark marks) back

-- fewer marks, fewer stale registers
pub stale_fewer : (n k : ℕ) (marks marks' : List Bool) → ((j : ℕ) → k ≡ n + j → mark marks j ≡ false → mark marks' j ≡ false) → stale_register n marks k ≡ false
    → stale_register n marks' k ≡ false
stale_fewer n k marks marks' fewer none = go (leb n k) refl none
  where
    go : (t : Bool) → leb n k ≡ t → (t && mark marks (k - n)) ≡ false → (t && mark marks' (k - n)) ≡ false
    go true e h = fewer (k - n) (omega (arith, leb-true n k e)) h
    go false e h = refl

pub stale_none : (n k : ℕ) (marks : List Bool) → ((j : ℕ) → k ≡ n + j → mark marks j ≡ false) → stale_register n marks k ≡ false
stale_none n k marks none = go (leb n k) refl
  where
    go : (t : Bool) → leb n k ≡ t → (t && mark marks (k - n)) ≡ false
    go true e = none (k - n) (omega (arith, leb-true n k e))
    go false e = refl

-- to clear a mark marks nothing
pub cleared : (marks : List Bool) (m i : ℕ) → mark marks i ≡ false → mark (set marks m false) i ≡ false
cleared [] m i e = e
cleared (b ∷ marks) zero zero e = refl
cleared (b ∷ marks) zero (suc i) e = e
cleared (b ∷ marks) (suc m) zero e = e
cleared (b ∷ marks) (suc m) (suc i) e = cleared marks m i e

-- a line that is not marked after a spread was not marked before, and reads neither q nor a stale line
pub spared : {t : Tape} {q : ℕ} {marks marks' : List Bool} → Spread t q marks marks' → (j : ℕ) → j < length t.lines → mark marks' j ≡ false
    → (mark marks j ≡ false) × (reads (line t j) (touched t.controls q marks') ≡ false)
spared spread j h clean = or_parts _ _ (sym (spread.each j h) ∙ clean)

pub untouched_fresh : (n q : ℕ) (l : Line) (marks : List Bool) → reads l (touched n q marks) ≡ false → reads l (stale_register n marks) ≡ false
untouched_fresh n q l marks none =
    reads_fewer (touched n q marks) (stale_register n marks) (λ k e. (or_parts (eqb k q) (stale_register n marks k) e).1) l none
