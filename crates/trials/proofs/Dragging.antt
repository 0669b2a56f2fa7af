-- The dragged session, state by state. Assumes nothing.
use Rattle.std.proofs.Common.{◌≡◌, ℕ, suc, ◌+◌, ◌<◌, ◌≤◌, Bool, true, false, cond, ◌||◌, leb, List, [], ◌∷◌, map, length, set, Some, None, Option, Result, sym, refl, ap, ◌∙◌, subst, ap₂, ⊎_elim, arith, lit<, lit≤, length-set, length-take}
use lib.ListN.{length-replicate}
use Rattle.std.proofs.lemmas.List.{get_or-set_other, get_or-set_same}
use Rattle.std.proofs.lemmas.Bool.{cases_lt, lt-leb, true≢false}
use Rattle.kind.specs.declared.wrapping.Ticks.{Ticks}
use Rattle.kind.specs.Wrapping.{Word, tick, tick_operations}
use Rattle.tape.specs.declared.lines.Line.TheVariants.{Multiply}
use Rattle.tape.specs.declared.refusals.Refusal.{Refusal}
use Rattle.tape.specs.Marks.{Spread, Waiting, mark}
use Rattle.tape.specs.Refusals.{cause, plain}
use Rattle.packed.specs.Vectors.{two_products}
use Rattle.session.specs.declared.sessions.Answer.{Answer}
use Rattle.session.specs.Refusals.{refuse_open}
use Rattle.session.specs.Runs.{Keeps}
use Rattle.session.specs.States.{Asks, State, Waits}
use Rattle.session.proofs.Entering.{opened_keeps}
use Rattle.trials.specs.Drags.{Answers, Drag}
use Rattle.trials.specs.Tapes.{IsWorth, numbers, ticks}
use Rattle.trials.proofs.Holding.{Holds, added_keeps, added_marks, answer, asked_keeps, asked_sweeps, count_one, count_two, no_line_valid, one_line_valid, set_keeps, set_spreads}

-- of two lines, only the second is marked

alone : (marks : List Bool) → mark marks 0 ≡ false → mark marks 1 ≡ true → Waiting two_products marks (Some 4)
alone marks first second = (1, refl, lit< tt, second, λ i h. let e : 0 ≡ i = omega arith in subst (λ j. mark marks j ≡ false) e first)

only_alone : (marks : List Bool) → mark marks 0 ≡ false → mark marks 1 ≡ true → (k : Option ℕ) → Waiting two_products marks k → k ≡ Some 4
only_alone marks first second None none = absurd (true≢false (sym second ∙ none 1))
only_alone marks first second (Some k) (j, is, within, marked, lower) =
    ⊎_elim
    (λ (low : j < 1). let e : j ≡ 0 = omega arith in absurd (true≢false (sym marked ∙ ap (mark marks) e ∙ first)))
    (λ (high : 1 ≤ j). ap Some (omega arith))
    (cases_lt j 1)

module _ (d : Drag) where
  abbrev room : ℕ
  room = length d.lent

  abbrev controls : List ℕ → List Word
  controls ns = numbers tick_operations ns

  -- the controls' numbers, and the marks of both lines
  abbrev At : List ℕ → (first second : Bool) → State Ticks → Type 0
  At ns first second s = Holds tick_operations tick room (controls ns) first second s

  rest_long : 3 ≤ length d.rest
  rest_long = omega (arith, length-take 3 d.rest, ap length d.pose)

  can_open : refuse_open 3 (length d.rest) room ≡ None
  can_open = ap₂ (λ a b. cause (a || b) (plain 2) None) (lt-leb (suc (length d.rest)) 3 (omega (arith, rest_long))) (lt-leb (suc room) 3 (omega (arith, d.room)))

  opened_book : Keeps tick_operations tick room (record { tape = record { controls = 3; lines = [] }; controls = controls (2 ∷ 3 ∷ 4 ∷ []) }) d.opened
  opened_book =
      subst (λ cs. Keeps tick_operations tick room (record { tape = record { controls = 3; lines = [] }; controls = cs }) d.opened) (ap (map tick) d.pose)
      (opened_keeps tick_operations tick 3 d.rest d.lent d.opened can_open d.opens)

  opened_long : length d.opened.marks ≡ 1024
  opened_long = ap length d.opens.marks ∙ length-replicate 1024 false

  can_begin : cause (leb room 3) (plain 3) None ≡ None
  can_begin = ap (λ t. cause t (plain 3) None) (lt-leb room 3 (omega (arith, d.room)))

  can_build : cause (leb room 4) (plain 3) None ≡ None
  can_build = ap (λ t. cause t (plain 3) None) (lt-leb room 4 (omega (arith, d.room)))

  begun_marks : d.begun.marks ≡ set d.opened.marks 0 true
  begun_marks = added_marks tick_operations tick room _ _ (Multiply 0 1) d.opened d.begun opened_book no_line_valid opened_long can_begin d.first_line d.begins

  begun_long : length d.begun.marks ≡ 1024
  begun_long = ap length begun_marks ∙ length-set d.opened.marks 0 true ∙ opened_long

  begun_book : Keeps tick_operations tick room (record { tape = record { controls = 3; lines = Multiply 0 1 ∷ [] }; controls = controls (2 ∷ 3 ∷ 4 ∷ []) }) d.begun
  begun_book = added_keeps tick_operations tick room _ _ (Multiply 0 1) d.opened d.begun opened_book no_line_valid opened_long can_begin d.first_line d.begins

  built_marks : d.built.marks ≡ set d.begun.marks 1 true
  built_marks = added_marks tick_operations tick room _ _ (Multiply 3 2) d.begun d.built begun_book one_line_valid begun_long can_build d.second_line d.builds

  built_holds : At (2 ∷ 3 ∷ 4 ∷ []) true true d.built
  built_holds = record {
    kept = added_keeps tick_operations tick room _ _ (Multiply 3 2) d.begun d.built begun_book one_line_valid begun_long can_build d.second_line d.builds;
    first_mark = ap (λ m. mark m 0) built_marks ∙ get_or-set_other d.begun.marks 1 0 true false (omega arith) ∙ ap (λ m. mark m 0) begun_marks
        ∙ get_or-set_same d.opened.marks 0 true false (omega (arith, opened_long));
    second_mark = ap (λ m. mark m 1) built_marks ∙ get_or-set_same d.begun.marks 1 true false (omega (arith, begun_long));
  }

  -- after register 4 was asked for, no line is marked
  cleared : (ns : List ℕ) (p q : Bool) (s s' : State Ticks) (held : At ns p q s) (r : Result (Answer Ticks) Refusal) → Asks tick_operations tick s 4 r s' → At ns false false s'
  cleared ns p q s s' held r asks = record {
    kept = asked_keeps tick_operations tick room (controls ns) p q s s' held 4 refl r asks;
    first_mark = (asked_sweeps tick_operations tick room (controls ns) p q s s' held 4 refl r asks).clear 0 (lit< tt);
    second_mark = (asked_sweeps tick_operations tick room (controls ns) p q s s' held 4 refl r asks).clear 1 (lit< tt);
  }

  -- the answer at register 4 works out the marked lines
  answer_at_4 : (ns : List ℕ) (p q : Bool) (s s' : State Ticks) (held : At ns p q s) (r : Result (Answer Ticks) Refusal) → Asks tick_operations tick s 4 r s'
      → (n worked : ℕ) → IsWorth tick_operations two_products ns 4 n → cond p 1 0 + cond q 1 0 ≡ worked → Answers r n worked
  answer_at_4 ns p q s s' held r asks n worked value count =
      let a = answer tick_operations tick room (controls ns) p q s s' held 4 refl r asks in
      subst (λ x. Answers x n worked) (sym a.1)
      (a.2 ∙ value, a.3 ∙ count_two s.marks ∙ ap₂ (λ x y. cond x 1 0 + cond y 1 0) held.first_mark held.second_mark ∙ count)

  pub first_answer_is : Answers d.first_answer 24 2
  first_answer_is = answer_at_4 (2 ∷ 3 ∷ 4 ∷ []) true true d.built d.seen built_holds d.first_answer d.sees 24 2 refl refl

  seen_holds : At (2 ∷ 3 ∷ 4 ∷ []) false false d.seen
  seen_holds = cleared (2 ∷ 3 ∷ 4 ∷ []) true true d.built d.seen built_holds d.first_answer d.sees

  moved_spread : Spread two_products 2 d.seen.marks d.moved.marks
  moved_spread = set_spreads tick_operations tick room _ false false d.seen d.moved seen_holds 2 (ticks 7) refl d.setting d.moves

  moved_first : mark d.moved.marks 0 ≡ false
  moved_first = moved_spread.each 0 (lit< tt) ∙ ap (λ b. b || false) seen_holds.first_mark

  moved_holds : At (2 ∷ 3 ∷ 7 ∷ []) false true d.moved
  moved_holds = record {
    kept = set_keeps tick_operations tick room _ false false d.seen d.moved seen_holds 2 (ticks 7) refl d.setting d.moves;
    first_mark = moved_first;
    second_mark = moved_spread.each 1 (lit< tt) ∙ ap₂ (λ b c. b || (c || true)) seen_holds.second_mark moved_first;
  }

  pub second_answer_is : Answers d.second_answer 42 1
  second_answer_is = answer_at_4 (2 ∷ 3 ∷ 7 ∷ []) false true d.moved d.seen_again moved_holds d.second_answer d.sees_again 42 1 refl refl

  seen_again_holds : At (2 ∷ 3 ∷ 7 ∷ []) false false d.seen_again
  seen_again_holds = cleared (2 ∷ 3 ∷ 7 ∷ []) false true d.moved d.seen_again moved_holds d.second_answer d.sees_again

  moved_again_spread : Spread two_products 0 d.seen_again.marks d.moved_again.marks
  moved_again_spread = set_spreads tick_operations tick room _ false false d.seen_again d.moved_again seen_again_holds 0 (ticks 5) refl d.setting_again d.moves_again

  moved_again_first : mark d.moved_again.marks 0 ≡ true
  moved_again_first = moved_again_spread.each 0 (lit< tt) ∙ ap (λ b. b || true) seen_again_holds.first_mark

  moved_again_holds : At (5 ∷ 3 ∷ 7 ∷ []) true true d.moved_again
  moved_again_holds = record {
    kept = set_keeps tick_operations tick room _ false false d.seen_again d.moved_again seen_again_holds 0 (ticks 5) refl d.setting_again d.moves_again;
    first_mark = moved_again_first;
    second_mark = moved_again_spread.each 1 (lit< tt) ∙ ap₂ (λ b c. b || (c || false)) seen_again_holds.second_mark moved_again_first;
  }

  pub third_answer_is : Answers d.third_answer 15 1
  third_answer_is =
      let a = answer tick_operations tick room _ true true d.moved_again d.left moved_again_holds 3 refl d.third_answer d.sees_part in
      subst (λ x. Answers x 15 1) (sym a.1) (a.2, a.3 ∙ count_one d.moved_again.marks ∙ ap (λ x. cond x 1 0) moved_again_holds.first_mark)

  left_holds : At (5 ∷ 3 ∷ 7 ∷ []) false true d.left
  left_holds =
      let swept = asked_sweeps tick_operations tick room _ true true d.moved_again d.left moved_again_holds 3 refl d.third_answer d.sees_part in
      record {
        kept = asked_keeps tick_operations tick room _ true true d.moved_again d.left moved_again_holds 3 refl d.third_answer d.sees_part;
        first_mark = swept.clear 0 (lit< tt);
        second_mark = swept.above 1 (lit≤ tt) ∙ moved_again_holds.second_mark;
      }

  left_tape : d.left.tape ≡ two_products
  left_tape = ap (λ b. b.tape) left_holds.kept.entered

  pub last_waits : Waits d.left (Some 4)
  last_waits = subst (λ t. Waiting t d.left.marks (Some 4)) (sym left_tape) (alone d.left.marks left_holds.first_mark left_holds.second_mark)

  pub only_last_waits : (k : Option ℕ) → Waits d.left k → k ≡ Some 4
  only_last_waits k waits = only_alone d.left.marks left_holds.first_mark left_holds.second_mark k (subst (λ t. Waiting t d.left.marks k) left_tape waits)
