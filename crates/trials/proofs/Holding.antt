-- A session of the two products, by its book and the marks of its lines, and what each call does to it. Assumes nothing.
use Rattle.std.proofs.Common.{◌≡◌, ℕ, zero, suc, ◌+◌, ◌≤◌, Bool, true, false, cond, leb, List, [], ◌∷◌, length, take, set, Some, None, Ok, Err, count_by, Option, Result, sym, refl, ap, ◌∙◌, subst, ap₂, arith, lit≤}
use lib.Signed.{le_z_yes}
use Rattle.std.proofs.lemmas.Bool.{lt-leb}
use Rattle.kind.specs.Kinds.{Operations}
use Rattle.tape.specs.declared.lines.Line.{Line}
use Rattle.tape.specs.declared.lines.Line.TheVariants.{Multiply}
use Rattle.tape.specs.declared.refusals.Refusal.{Refusal}
use Rattle.tape.specs.Marks.{Spread, Swept, count_to, mark, refuse_register}
use Rattle.tape.specs.Refusals.{Answered, Notice, cause, naming, plain}
use Rattle.tape.specs.Tapes.{ConstantsFit, ReadsBelow, Tape, Valid}
use Rattle.packed.specs.Vectors.{two_products}
use Rattle.session.specs.declared.sessions.Answer.{Answer}
use Rattle.session.specs.Books.{Book, unless, worth}
use Rattle.session.specs.Refusals.{refuse_add, refuse_set}
use Rattle.session.specs.Runs.{Keeps}
use Rattle.session.specs.States.{Adds, Asks, Sets, State, WasAsked, with_line}
use Rattle.session.proofs.Entering.{add_enters, ask_enters, full, judged_alike, never_short, right_answer, set_enters}

-- a call with no cause to be declined is done
pub done_of : {R : Type 0} (why : Option Notice) (r : Result R Refusal) (same : Type 0) (done : R → Type 0) → why ≡ None → Answered why r same done → (v : R) × (r ≡ Ok v) × done v
done_of (Some e) r same done free h = absurd (let z : ◌≡◌ {A = ℕ} 0 1 = cc in omega arith)
done_of None (Ok v) same done free h = (v, refl, h)
done_of None (Err e) same done free h = absurd h

-- the tape as it grows

pub no_line_valid : Valid (record { controls = 3; lines = [] })
no_line_valid = record {
  some_control = lit≤ tt;
  few_controls = lit≤ tt;
  few_lines = lit≤ tt;
  below = λ j h. absurd (omega arith);
  fit = λ j h. absurd (omega arith);
}

pub one_line_valid : Valid (record { controls = 3; lines = Multiply 0 1 ∷ [] })
one_line_valid = record { some_control = lit≤ tt; few_controls = lit≤ tt; few_lines = lit≤ tt; below = below; fit = fit }
  where
    below : ReadsBelow 3 (Multiply 0 1 ∷ [])
    below zero h = refl
    below (suc j) h = absurd (omega arith)

    fit : ConstantsFit (Multiply 0 1 ∷ [])
    fit zero h = (le_z_yes tt, le_z_yes tt)
    fit (suc j) h = absurd (omega arith)

pub two_products_valid : Valid two_products
two_products_valid = record { some_control = lit≤ tt; few_controls = lit≤ tt; few_lines = lit≤ tt; below = below; fit = fit }
  where
    below : ReadsBelow 3 two_products.lines
    below zero h = refl
    below (suc zero) h = refl
    below (suc (suc j)) h = absurd (omega arith)

    fit : ConstantsFit two_products.lines
    fit zero h = (le_z_yes tt, le_z_yes tt)
    fit (suc zero) h = (le_z_yes tt, le_z_yes tt)
    fit (suc (suc j)) h = absurd (omega arith)

-- how many of the first marks are set

pub count_one : (marks : List Bool) → count_by (λ b. b) (take 1 marks) ≡ cond (mark marks 0) 1 0
count_one [] = refl
count_one (true ∷ marks) = refl
count_one (false ∷ marks) = refl

pub count_two : (marks : List Bool) → count_by (λ b. b) (take 2 marks) ≡ cond (mark marks 0) 1 0 + cond (mark marks 1) 1 0
count_two [] = refl
count_two (true ∷ []) = refl
count_two (false ∷ []) = refl
count_two (true ∷ (true ∷ marks)) = refl
count_two (true ∷ (false ∷ marks)) = refl
count_two (false ∷ (true ∷ marks)) = refl
count_two (false ∷ (false ∷ marks)) = refl

module _ {K M : Type 0} (o : Operations M) (means : K → M) (room : ℕ) where
  abbrev pub book_at : List M → Book M
  book_at cs = record { tape = two_products; controls = cs }

  pub record Holds (cs : List M) (first second : Bool) (s : State K) : Type 0 where
    pub kept : Keeps o means room (book_at cs) s
    pub first_mark : mark s.marks 0 ≡ first
    pub second_mark : mark s.marks 1 ≡ second

  module _ (cs : List M) (p q : Bool) (s s' : State K) (held : Holds cs p q s) where
    pub tape_is : s.tape ≡ two_products
    tape_is = ap (λ b. b.tape) held.kept.entered

    valid : Valid s.tape
    valid = subst Valid (sym tape_is) two_products_valid

    enough : 5 ≤ room
    enough = full o means s s' room (book_at cs) held.kept

    module _ (k : ℕ) (known : leb 5 k ≡ false) (r : Result (Answer K) Refusal) (asks : Asks o means s k r s') where
      free : refuse_register two_products room k ≡ None
      free = never_short o means s s' room (book_at cs) held.kept k ∙ ap (λ t. cause t (naming 5 k) None) known

      pub asked : (a : Answer K) × (r ≡ Ok a) × WasAsked o means s k a.value a.worked s'
      asked = done_of _ r _ _ (judged_alike o means s s' room (book_at cs) held.kept k ∙ free) asks

      pub answer : (a : Answer K) × (r ≡ Ok a) × (means a.value ≡ worth o (book_at cs) k) × (a.worked ≡ count_by (λ b. b) (take (count_to two_products k) s.marks))
      answer = (
        asked.0,
        asked.1,
        right_answer o means s s' room (book_at cs) held.kept k _ _ valid free asked.2,
        asked.2.after.swept.count ∙ ap (λ t. count_by (λ b. b) (take (count_to t k) s.marks)) tape_is,
      )

      pub asked_keeps : Keeps o means room (book_at cs) s'
      asked_keeps = ask_enters o means s s' valid k r asks room (book_at cs) held.kept

      pub asked_sweeps : Swept o means two_products (count_to two_products k) s.row s.marks s'.row s'.marks asked.0.worked
      asked_sweeps = subst (λ t. Swept o means t (count_to t k) s.row s.marks s'.row s'.marks asked.0.worked) tape_is asked.2.after.swept

    module _ (i : ℕ) (x : K) (control : leb 3 i ≡ false) (r : Result (Unit {0}) Refusal) (sets : Sets s i x r s') where
      set_free : refuse_set two_products room i ≡ None
      set_free = ap₂ (λ a b. cause a (naming 5 i) (cause b (plain 2) None)) control (lt-leb (suc room) 5 (omega (arith, enough)))

      pub set_keeps : Keeps o means room (book_at (set cs i (means x))) s'
      set_keeps = subst (λ why. Keeps o means room (unless why (book_at cs) (book_at (set cs i (means x)))) s') set_free (set_enters o means s s' i x r sets room (book_at cs) held.kept)

      pub set_spreads : Spread two_products i s.marks s'.marks
      set_spreads =
          subst (λ t. Spread t i s.marks s'.marks) tape_is
          (done_of _ r _ _ (ap₂ (λ t n. refuse_set t n i) tape_is held.kept.long ∙ set_free) sets).2.marks

  -- a line is added
  module _ (t : Tape) (cs : List M) (l : Line) (s s' : State K) (kept : Keeps o means room (record { tape = t; controls = cs }) s) (is_valid : Valid t)
      (long : length s.marks ≡ 1024) (no_cause : refuse_add t room l ≡ None) (r : Result ℕ Refusal) (adds : Adds s l r s') where
    tape_was : s.tape ≡ t
    tape_was = ap (λ b. b.tape) kept.entered

    pub added_keeps : Keeps o means room (record { tape = with_line t l; controls = cs }) s'
    added_keeps =
        subst (λ why. Keeps o means room (unless why (record { tape = t; controls = cs }) (record { tape = with_line t l; controls = cs })) s') no_cause
        (add_enters o means s s' (subst Valid (sym tape_was) is_valid) long l r adds room _ kept)

    pub added_marks : s'.marks ≡ set s.marks (length t.lines) true
    added_marks =
        (done_of _ r _ _ (ap₂ (λ u n. refuse_add u n l) tape_was kept.long ∙ no_cause) adds).2.marks
        ∙ ap (λ u. set s.marks (length u.lines) true) tape_was
