-- How marks spread, line by line. Assumes nothing.
use Rattle.std.proofs.Common.{◌≡◌, ℕ, ◌+◌, ◌-◌, ◌<◌, ◌≤◌, Bool, true, false, ◌&&◌, ◌||◌, eqb, leb, ◌≢◌, List, length, take, set, pos, sym, refl, ap, ◌∙◌, subst, ⊎_elim, arith, length-set, length-take}
use Rattle.std.proofs.lemmas.Bool.{leb-true, leb-false, cases_lt}
use Rattle.std.proofs.lemmas.List.{get_or-take, get_or-set_same, get_or-set_other, take_all}
use Rattle.tape.specs.declared.lines.Line.{Line}
use Rattle.tape.specs.declared.lines.Line.TheVariants.{Constant}
use Rattle.tape.specs.Lines.{reads, Below}
use Rattle.tape.specs.Marks.{mark, stale_register, touched, Spread}
use Rattle.tape.specs.Tapes.{Tape, line, nth, ReadsBelow}
use Rattle.tape.proofs.Growing.{same_to}
use Rattle.tape.proofs.Reading.{reads_agree}

-- a register is as stale as its line is marked
pub stale_agree : (n k : ℕ) (marks marks' : List Bool) → ((j : ℕ) → k ≡ n + j → mark marks j ≡ mark marks' j) → stale_register n marks k ≡ stale_register n marks' k
stale_agree n k marks marks' same = go (leb n k) refl
  where
    go : (t : Bool) → leb n k ≡ t → (t && mark marks (k - n)) ≡ (t && mark marks' (k - n))
    go true e = same (k - n) (omega (arith, leb-true n k e))
    go false e = refl

-- a write to the mark of line j is not seen below its register
touched_below : (n q j k : ℕ) (marks : List Bool) (b : Bool) → k < n + j → touched n q marks k ≡ touched n q (set marks j b) k
touched_below n q j k marks b low =
    ap (λ t. eqb k q || t)
    (stale_agree n k marks (set marks j b) (λ i e. let other : i ≢ j = omega arith in sym (get_or-set_other marks j i b false other)))

-- one line more is spread to
pub spread_next : (n q j : ℕ) (lines : List Line) (marks now : List Bool) → j < length lines → j < length now
    → ((i : ℕ) → i < j + 1 → Below (n + i) (nth lines i))
    → Spread (record { controls = n; lines = take j lines }) q marks now
    → Spread (record { controls = n; lines = take (j + 1) lines }) q marks (set now j (mark now j || reads (nth lines j) (touched n q now)))
spread_next n q j lines marks now in_lines in_now below so_far = record {
  long = simp length-set so_far.long;
  each = λ i h. each i (omega (arith, length-take (j + 1) lines));
  past = λ i h.
      let far : j + 1 ≤ i = omega (arith, length-take (j + 1) lines) in
      let other : i ≢ j = omega arith in
      get_or-set_other now j i new false other ∙ so_far.past i (omega (arith, length-take j lines));
}
  where
    new : Bool
    new = mark now j || reads (nth lines j) (touched n q now)

    sees : (i : ℕ) → i < j + 1 → reads (nth lines i) (touched n q now) ≡ reads (nth (take (j + 1) lines) i) (touched n q (set now j new))
    sees i low =
        reads_agree (leb (n + i)) _ _ (λ k h. touched_below n q j k now new (omega (arith, leb-false (n + i) k h))) (nth lines i) (below i low)
        ∙ ap (λ l. reads l (touched n q (set now j new))) (sym (get_or-take (j + 1) lines i (Constant (pos 0)) low))

    Right : ℕ → Type 0
    Right i = mark (set now j new) i ≡ (mark marks i || reads (nth (take (j + 1) lines) i) (touched n q (set now j new)))

    at_j : Right j
    at_j =
        get_or-set_same now j new false in_now
        ∙ ap (λ t. t || reads (nth lines j) (touched n q now)) (so_far.past j (omega (arith, length-take j lines)))
        ∙ ap (λ t. mark marks j || t) (sees j (omega arith))

    each : (i : ℕ) → i < j + 1 → Right i
    each i low =
        ⊎_elim
        (λ (before : i < j).
        let other : i ≢ j = omega arith in
        get_or-set_other now j i new false other
        ∙ so_far.each i (omega (arith, length-take j lines))
        ∙ ap (λ l. mark marks i || reads l (touched n q now)) (get_or-take j lines i (Constant (pos 0)) before)
        ∙ ap (λ t. mark marks i || t) (sees i low))
        (λ (here : j ≤ i). let same : j ≡ i = omega arith in subst Right same at_j)
        (cases_lt i j)

-- the read-below rule, at a line of the table's array
pub below_at : (n m i : ℕ) (lines : List Line) → m ≤ length lines → ReadsBelow n (take m lines) → i < m → Below (n + i) (nth lines i)
below_at n m i lines fits below low =
    ap (λ l. reads l (leb (n + i))) (sym (get_or-take m lines i (Constant (pos 0)) low)) ∙ below i (omega (arith, length-take m lines))

-- the marks that a spread leaves are the only ones of their kind
pub spread_once : (t : Tape) (q : ℕ) (marks us vs : List Bool) → ReadsBelow t.controls t.lines → Spread t q marks us → Spread t q marks vs → us ≡ vs
spread_once t q marks us vs below a b =
    sym (take_all (length marks) us (omega (arith, a.long)))
    ∙ same_to (length marks) us vs false (omega (arith, a.long)) (omega (arith, b.long)) each
    ∙ take_all (length marks) vs (omega (arith, b.long))
  where
    n : ℕ
    n = t.controls

    each : (i : ℕ) → i < length marks → take i us ≡ take i vs → mark us i ≡ mark vs i
    each i h before =
        ⊎_elim
        (λ (there : i < length t.lines).
        a.each i there
        ∙ ap (λ m. mark marks i || m)
        (reads_agree (leb (n + i)) (touched n q us) (touched n q vs)
        (λ k low. ap (λ m. eqb k q || m) (stale_agree n k us vs
        (λ j e.
        let earlier : j < i = omega (arith, leb-false (n + i) k low) in
        sym (get_or-take i us j false earlier) ∙ ap (λ ms. mark ms j) before ∙ get_or-take i vs j false earlier)))
        (line t i) (below i there))
        ∙ sym (b.each i there))
        (λ (past : length t.lines ≤ i). a.past i past ∙ sym (b.past i past))
        (cases_lt i (length t.lines))
