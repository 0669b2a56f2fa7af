-- A session with the calls of a drag, state by state. Assumes nothing.
use Rattle.std.proofs.Common.{◌≡◌, ℕ, zero, suc, ◌+◌, ◌<◌, ◌≤◌, Bool, true, false, ◌||◌, List, [], ◌∷◌, map, get_or, replicate, Ok, count_by, refl, ap, arith, lit<, lit≤}
use Rattle.std.proofs.lemmas.Bool.{true≢false}
use Rattle.kind.specs.declared.wrapping.Ticks.{Ticks}
use Rattle.kind.specs.Wrapping.{tick, tick_operations}
use Rattle.tape.specs.declared.lines.Line.{Line}
use Rattle.tape.specs.declared.lines.Line.TheVariants.{Multiply}
use Rattle.tape.specs.Lines.{reads}
use Rattle.tape.specs.Marks.{NotStale, Spread, Swept, mark, touched}
use Rattle.tape.specs.Rows.{at}
use Rattle.tape.specs.Tapes.{line}
use Rattle.tape.specs.Values.{applied}
use Rattle.packed.specs.Vectors.{two_products}
use Rattle.session.specs.States.{State}
use Rattle.trials.specs.Drags.{Drag}
use Rattle.trials.specs.Tapes.{ticks}

abbrev row : (a b c d e : ℕ) → List Ticks
row a b c d e = ticks a ∷ (ticks b ∷ (ticks c ∷ (ticks d ∷ (ticks e ∷ []))))

-- the marks of the two lines, and clear ones past them
abbrev marked : (first second : Bool) → List Bool
marked first second = first ∷ (second ∷ replicate 1022 false)

abbrev held : List Line → List Ticks → (first second : Bool) → State Ticks
held lines numbers first second = record { tape = record { controls = 3; lines = lines }; row = numbers; marks = marked first second }

abbrev Product : (x y z : ℕ) → Type 0
Product x y z = tick (ticks z) ≡ tick_operations.times (tick (ticks x)) (tick (ticks y))

-- both lines are swept, as their marks say
module _ (p q : Bool) (a b c d e d' e' : ℕ) (first : p ≡ true → Product a b d') (second : q ≡ true → Product d' c e') (first_kept : p ≡ false → d' ≡ d) (second_kept : q ≡ false → e' ≡ e) where
  done : (j : ℕ) → j < 2 → mark (marked p q) j ≡ true
      → at tick_operations (map tick (row a b c d' e')) (3 + j) ≡ applied tick_operations (at tick_operations (map tick (row a b c d' e'))) (line two_products j)
  done zero h m = first m
  done (suc zero) h m = second m
  done (suc (suc j)) h m = absurd (omega arith)

  kept : (k : ℕ) (x : Ticks) → NotStale two_products 2 (marked p q) k → get_or (row a b c d' e') k x ≡ get_or (row a b c d e) k x
  kept zero x free = refl
  kept (suc zero) x free = refl
  kept (suc (suc zero)) x free = refl
  kept (suc (suc (suc zero))) x free = ap ticks (first_kept (free 0 (lit< tt) refl))
  kept (suc (suc (suc (suc zero)))) x free = ap ticks (second_kept (free 1 (lit< tt) refl))
  kept (suc (suc (suc (suc (suc k))))) x free = refl

  sweeps_both : (worked : ℕ) → worked ≡ count_by (λ m. m) (p ∷ (q ∷ [])) → Swept tick_operations tick two_products 2 (row a b c d e) (marked p q) (row a b c d' e') (marked false false) worked
  sweeps_both worked count = record { done = done; kept = kept; room = refl; long = refl; clear = clear; above = above; count = count }
    where
      clear : (j : ℕ) → j < 2 → mark (marked false false) j ≡ false
      clear zero h = refl
      clear (suc zero) h = refl
      clear (suc (suc j)) h = absurd (omega arith)

      above : (j : ℕ) → 2 ≤ j → mark (marked false false) j ≡ mark (marked p q) j
      above zero h = absurd (omega arith)
      above (suc zero) h = absurd (omega arith)
      above (suc (suc j)) h = refl

-- the first line alone is swept
module _ (q : Bool) (a b c d e d' : ℕ) (first : Product a b d') where
  first_done : (j : ℕ) → j < 1 → mark (marked true q) j ≡ true
      → at tick_operations (map tick (row a b c d' e)) (3 + j) ≡ applied tick_operations (at tick_operations (map tick (row a b c d' e))) (line two_products j)
  first_done zero h m = first
  first_done (suc j) h m = absurd (omega arith)

  others_kept : (k : ℕ) (x : Ticks) → NotStale two_products 1 (marked true q) k → get_or (row a b c d' e) k x ≡ get_or (row a b c d e) k x
  others_kept zero x free = refl
  others_kept (suc zero) x free = refl
  others_kept (suc (suc zero)) x free = refl
  others_kept (suc (suc (suc zero))) x free = absurd (true≢false (free 0 (lit< tt) refl))
  others_kept (suc (suc (suc (suc k)))) x free = refl

  sweeps_first : Swept tick_operations tick two_products 1 (row a b c d e) (marked true q) (row a b c d' e) (marked false q) 1
  sweeps_first = record { done = first_done; kept = others_kept; room = refl; long = refl; clear = clear; above = above; count = refl }
    where
      clear : (j : ℕ) → j < 1 → mark (marked false q) j ≡ false
      clear zero h = refl
      clear (suc j) h = absurd (omega arith)

      above : (j : ℕ) → 1 ≤ j → mark (marked false q) j ≡ mark (marked true q) j
      above zero h = absurd (omega arith)
      above (suc j) h = refl

-- from clear marks, control i is set
spreads : (i : ℕ) (p q : Bool) → mark (marked p q) 0 ≡ (false || reads (Multiply 0 1) (touched 3 i (marked p q)))
    → mark (marked p q) 1 ≡ (false || reads (Multiply 3 2) (touched 3 i (marked p q))) → Spread two_products i (marked false false) (marked p q)
spreads i p q first second = record { long = refl; each = each; past = past }
  where
    each : (j : ℕ) → j < 2 → mark (marked p q) j ≡ (mark (marked false false) j || reads (line two_products j) (touched 3 i (marked p q)))
    each zero h = first
    each (suc zero) h = second
    each (suc (suc j)) h = absurd (omega arith)

    past : (j : ℕ) → 2 ≤ j → mark (marked p q) j ≡ mark (marked false false) j
    past zero h = absurd (omega arith)
    past (suc zero) h = absurd (omega arith)
    past (suc (suc j)) h = refl

pub some_drag : Drag
some_drag = record {
  rest = ticks 2 ∷ (ticks 3 ∷ (ticks 4 ∷ []));
  lent = row 0 0 0 0 0;
  pose = refl;
  room = lit≤ tt;
  opened = held [] (row 2 3 4 0 0) false false;
  opens = record { tape = refl; row = refl; marks = refl };
  first_line = Ok 3;
  second_line = Ok 4;
  begun = held (Multiply 0 1 ∷ []) (row 2 3 4 0 0) true false;
  built = held two_products.lines (row 2 3 4 0 0) true true;
  begins = record { register = refl; tape = refl; row = refl; marks = refl };
  builds = record { register = refl; tape = refl; row = refl; marks = refl };
  first_answer = Ok (record { value = ticks 24; worked = 2 });
  seen = held two_products.lines (row 2 3 4 6 24) false false;
  sees = record { after = record { tape = refl; swept = sweeps_both true true 2 3 4 0 0 6 24 (λ m. refl) (λ m. refl) (λ m. absurd (true≢false m)) (λ m. absurd (true≢false m)) 2 refl }; entry = refl };
  setting = Ok tt;
  moved = held two_products.lines (row 2 3 7 6 24) false true;
  moves = record { tape = refl; row = refl; marks = spreads 2 false true refl refl };
  second_answer = Ok (record { value = ticks 42; worked = 1 });
  seen_again = held two_products.lines (row 2 3 7 6 42) false false;
  sees_again = record { after = record { tape = refl; swept = sweeps_both false true 2 3 7 6 24 6 42 (λ m. refl) (λ m. refl) (λ m. refl) (λ m. absurd (true≢false m)) 1 refl }; entry = refl };
  setting_again = Ok tt;
  moved_again = held two_products.lines (row 5 3 7 6 42) true true;
  moves_again = record { tape = refl; row = refl; marks = spreads 0 true true refl refl };
  third_answer = Ok (record { value = ticks 15; worked = 1 });
  left = held two_products.lines (row 5 3 7 15 42) false true;
  sees_part = record { after = record { tape = refl; swept = sweeps_first true 5 3 7 6 42 15 refl }; entry = refl };
}
