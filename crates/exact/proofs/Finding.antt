-- The first of a list that passes a test, by a loop that goes along the list. Assumes nothing.
use Rattle.std.proofs.lemmas.Bool.{le-leb, lt-leb}
use Rattle.std.proofs.Common.{◌≤◌, ◌≡◌, ℕ, zero, suc, ◌<◌, Bool, true, false, cond, leb, List, [], ◌∷◌, length, get_or, Some, None, Option, refl, ap, ◌∙◌, ap₂, arith}
use Rattle.tape.specs.Refusals.{Notice, cause, naming, plain}
use Rattle.tape.specs.Tapes.{Tape, registers}
use Rattle.exact.specs.Refusals.{Lengths, first, refuse_first, refuse_registers, too_short}

pub first_none : (test : ℕ → Bool) (rs : List ℕ) → ((i : ℕ) → i < length rs → test (get_or rs i 0) ≡ false) → first test rs ≡ None
first_none test [] h = refl
first_none test (r ∷ rs) h = ap (λ b. cond b (Some r) (first test rs)) (h 0 (omega arith)) ∙ first_none test rs (λ i b. h (suc i) (omega arith))

pub first_at : (test : ℕ → Bool) (rs : List ℕ) (i : ℕ) → i < length rs → ((k : ℕ) → k < i → test (get_or rs k 0) ≡ false) → test (get_or rs i 0) ≡ true
    → first test rs ≡ Some (get_or rs i 0)
first_at test [] i within h here = elim within [ ]
first_at test (r ∷ rs) zero within h here = ap (λ b. cond b (Some r) (first test rs)) here
first_at test (r ∷ rs) (suc i) within h here =
    ap (λ b. cond b (Some r) (first test rs)) (h 0 (omega arith)) ∙ first_at test rs i (omega arith) (λ k b. h (suc k) (omega arith)) here

-- where there is none, no entry passes
pub none_first : (test : ℕ → Bool) (rs : List ℕ) → first test rs ≡ None → (i : ℕ) → i < length rs → test (get_or rs i 0) ≡ false
none_first test [] e i within = elim within [ ]
none_first test (r ∷ rs) e i within = by (test r) refl e (λ e i within. none_first test rs e i within) i within
  where
    by : (b : Bool) → test r ≡ b → cond b (Some r) (first test rs) ≡ None
        → (first test rs ≡ None → (i : ℕ) → i < length rs → test (get_or rs i 0) ≡ false) → (i : ℕ) → i < length (r ∷ rs) → test (get_or (r ∷ rs) i 0) ≡ false
    by true p e rest i within = let z : ◌≡◌ {A = ℕ} 0 1 = cc in absurd (omega arith)
    by false p e rest zero within = p
    by false p e rest (suc i) within = rest e i (omega arith)

-- tests that agree on the list find the same
pub first_same : (test test' : ℕ → Bool) (rs : List ℕ) → ((i : ℕ) → i < length rs → test (get_or rs i 0) ≡ test' (get_or rs i 0)) → first test rs ≡ first test' rs
first_same test test' [] h = refl
first_same test test' (r ∷ rs) h = ap₂ (λ b o. cond b (Some r) o) (h 0 (omega arith)) (first_same test test' rs (λ i b. h (suc i) (omega arith)))

-- where there is no refusal, no entry passes
pub not_refused : (number : ℕ) (test : ℕ → Bool) (rs : List ℕ) → refuse_first number (first test rs) None ≡ None → (i : ℕ) → i < length rs → test (get_or rs i 0) ≡ false
not_refused number test rs e = none_first test rs (by (first test rs) e)
  where
    by : (found : Option ℕ) → refuse_first number found None ≡ None → found ≡ None
    by (Some r) e = let z : ◌≡◌ {A = ℕ} 0 1 = cc in absurd (omega arith)
    by None e = refl

-- the refusal of an entry, where none before it passes, is that of the list
pub refused_at : (number : ℕ) (test : ℕ → Bool) (rs : List ℕ) (i : ℕ) (why : Notice) → i < length rs → ((k : ℕ) → k < i → test (get_or rs k 0) ≡ false)
    → refuse_first number (first test (get_or rs i 0 ∷ [])) None ≡ Some why → refuse_first number (first test rs) None ≡ Some why
refused_at number test rs i why within before e = by (test (get_or rs i 0)) refl e
  where
    by : (b : Bool) → test (get_or rs i 0) ≡ b → refuse_first number (cond b (Some (get_or rs i 0)) None) None ≡ Some why → refuse_first number (first test rs) None ≡ Some why
    by true p e = ap (λ found. refuse_first number found None) (first_at test rs i within before p) ∙ e
    by false p e = let z : ◌≡◌ {A = ℕ} 0 1 = cc in absurd (omega arith)

-- Why a call is declined before its work.
module _ (t : Tape) (rows : Lengths) (tests : List ℕ) where
  abbrev Known : ℕ → Type 0
  Known n = (i : ℕ) → i < n → get_or tests i 0 < registers t

  all_known : Known (length tests) → first (leb (registers t)) tests ≡ None
  all_known known = first_none (leb (registers t)) tests (λ i h. lt-leb (registers t) _ (known i h))

  pub unknown_register : (i : ℕ) → i < length tests → Known i → registers t ≤ get_or tests i 0 → refuse_registers t rows tests ≡ Some (naming 5 (get_or tests i 0))
  unknown_register i within known here =
      ap (λ found. refuse_first 5 found (cause (too_short t rows) (plain 2) None)) (first_at (leb (registers t)) tests i within (λ k h. lt-leb (registers t) _ (known k h)) (le-leb _ _ here))

  pub short_row : Known (length tests) → too_short t rows ≡ true → refuse_registers t rows tests ≡ Some (plain 2)
  short_row known short = ap₂ (λ found s. refuse_first 5 found (cause s (plain 2) None)) (all_known known) short

  pub no_cause : Known (length tests) → too_short t rows ≡ false → refuse_registers t rows tests ≡ None
  no_cause known short = ap₂ (λ found s. refuse_first 5 found (cause s (plain 2) None)) (all_known known) short
