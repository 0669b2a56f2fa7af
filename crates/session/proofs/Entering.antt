-- Every call, accepted or declined, is a step of the book. Assumes nothing.
use Rattle.std.proofs.Common.{◌≡◌, ℕ, ◌+◌, ◌<◌, ◌≤◌, false, leb, List, [], ◌++◌, map, length, take, drop, Some, None, Option, Result, sym, refl, ap, ◌∙◌, subst, arith, length-append, length-drop, length-take}
use Rattle.std.proofs.lemmas.List.{take_at, length-take-le}
use Rattle.std.proofs.lemmas.Bool.Decides.{nat_tests}
use Rattle.kind.specs.Kinds.{Operations}
use Rattle.tape.specs.declared.lines.Line.{Line}
use Rattle.tape.specs.declared.refusals.Refusal.{Refusal}
use Rattle.tape.specs.Marks.{mark, refuse_register}
use Rattle.tape.specs.Refusals.{Answered, Notice, naming, cause}
use Rattle.tape.specs.Rows.{at}
use Rattle.tape.specs.Tapes.{Valid, registers}
use Rattle.tape.specs.Values.{values}
use Rattle.tape.proofs.Reading.{read}
use Rattle.session.specs.declared.calls.Call.{Call}
use Rattle.session.specs.declared.calls.Call.TheVariants.{Set, Add, Change, Drop, Value}
use Rattle.session.specs.declared.sessions.Answer.{Answer}
use Rattle.session.specs.Books.{Book, blank, feed, unless, worth}
use Rattle.session.specs.Refusals.{refuse_open, refuse_set, refuse_add, refuse_change, refuse_value}
use Rattle.session.specs.Rows.{shared}
use Rattle.session.specs.Runs.{book, Good, Keeps}
use Rattle.session.specs.States.{State, Opened, Sets, Adds, Changes, Drops, Asks, WasSwept, WasAsked}
use Rattle.session.proofs.Keeping.{state_by, arrives, by_table, set_keeps, add_keeps, change_keeps, drop_keeps, sweep_keeps}
use Rattle.session.proofs.Worth.{row_is, worth_is}

unless_same : {X : Type 0} (why : Option Notice) (x : X) → unless why x x ≡ x
unless_same (Some e) x = refl
unless_same None x = refl

module _ {K M : Type 0} (o : Operations M) (means : K → M) where
  -- the opened session keeps the blank book
  pub opened_keeps : (n : ℕ) (rest lent : List K) (s : State K) → refuse_open n (length rest) (length lent) ≡ None → Opened n rest lent s
      → Keeps o means (length lent) (blank means n rest) s
  opened_keeps n rest lent s free opened = arrives o means (state_by o means s opened.tape (opened.row ∙ ap (λ m. take m rest ++ drop m lent) all) refl) (record {
    good = record {
      fits = omega (arith, long, room);
      right = λ j h clean. absurd (omega arith);
      fresh = λ j h clean. absurd (omega arith);
    };
    long = long;
    entered = ap (λ row. record { tape = record { controls = n; lines = [] }; controls = map means row }) (take_at (take n rest) (drop n lent) n (length-take-le n rest have));
  })
    where
      have : n ≤ length rest
      have = grind (arith, nat_tests)

      room : n ≤ length lent
      room = grind (arith, nat_tests)

      all : shared n rest lent ≡ n
      all = omega (arith, have, room)

      long : length (take n rest ++ drop n lent) ≡ length lent
      long = length-append (take n rest) (drop n lent) ∙ omega (arith, length-take n rest, length-drop n lent, have, room)

  module _ (s s' : State K) where
    -- s' keeps the book of s with the call entered
    abbrev pub Enters : Call K → Type 0
    Enters call = (room : ℕ) (b : Book M) → Keeps o means room b s → Keeps o means room (feed means room b call) s'

    -- it is enough to show it of the book of s
    by_book : (call : Call K) → (Good o means s → Keeps o means (length s.row) (feed means (length s.row) (book o means s) call) s') → Enters call
    by_book call step room b kept = record {
      good = (step kept.good).good;
      long = (step kept.good).long ∙ kept.long;
      entered = (step kept.good).entered ∙ ap (λ r. feed means r (book o means s) call) kept.long ∙ ap (λ c. feed means room c call) kept.entered;
    }

    pub for : {call call' : Call K} → call ≡ call' → Enters call' → Enters call
    for e step = subst Enters (sym e) step

    pub set_enters : (i : ℕ) (x : K) (r : Result (Unit {0}) Refusal) → Sets s i x r s' → Enters (Set i x)
    set_enters i x r h = by_book (Set i x) (λ good. by_table o means _ r s s' _ _ good (λ _ free done. set_keeps o means s s' i x (control free) good done) h)
      where
        control : refuse_set s.tape (length s.row) i ≡ None → i < s.tape.controls
        control free = grind (arith, nat_tests)

    pub add_enters : Valid s.tape → length s.marks ≡ 1024 → (l : Line) (r : Result ℕ Refusal) → Adds s l r s' → Enters (Add l)
    add_enters valid marked l r h =
        by_book (Add l)
        (λ good. by_table o means _ r s s' _ _ good (λ k free done. add_keeps o means s s' l k (line_left free) (room_left free) valid.below good done) h)
      where
        line_left : refuse_add s.tape (length s.row) l ≡ None → length s.tape.lines < length s.marks
        line_left free = grind (arith, nat_tests)

        room_left : refuse_add s.tape (length s.row) l ≡ None → registers s.tape < length s.row
        room_left free = grind (arith, nat_tests)

    pub change_enters : Valid s.tape → length s.marks ≡ 1024 → (k : ℕ) (l : Line) (r : Result (Unit {0}) Refusal) → Changes s k l r s' → Enters (Change k l)
    change_enters valid marked k l r h =
        by_book (Change k l)
        (λ good. by_table o means _ r s s' _ _ good (λ _ free done. change_keeps o means s s' k l (line_there free) (line_below free) (omega (arith, valid.few_lines)) good done) h)
      where
        line_there : refuse_change s.tape k l ≡ None → s.tape.controls ≤ k
        line_there free = grind (arith, nat_tests)

        line_below : refuse_change s.tape k l ≡ None → k < registers s.tape
        line_below free = grind (arith, nat_tests)

    pub drop_enters : (r : Result (Unit {0}) Refusal) → Drops s r s' → Enters Drop
    drop_enters r h = by_book Drop (λ good. by_table o means _ r s s' _ _ good (λ _ _ done. drop_keeps o means s s' good done) h)

    -- a query that sweeps the lines at or below register k, and leaves the book
    pub sweep_enters : {R : Type 0} (call : Call K) → ((room : ℕ) (b : Book M) → feed means room b call ≡ b) → Valid s.tape → (why : Option Notice) (k : ℕ) (r : Result R Refusal) (worked : R → ℕ) (done : R → Type 0)
        → ((a : R) → done a → WasSwept o means s k (worked a) s') → Answered why r (s' ≡ s) done → Enters call
    sweep_enters call looks valid why k r worked done sweeps h =
        by_book call
        (λ good. subst (λ b. Keeps o means (length s.row) b s') (unless_same why (book o means s) ∙ sym (looks (length s.row) (book o means s)))
        (by_table o means why r s s' done (book o means s) good (λ a _ d. sweep_keeps o means s s' k (worked a) valid.below good (sweeps a d)) h))

    pub ask_enters : Valid s.tape → (k : ℕ) (r : Result (Answer K) Refusal) → Asks o means s k r s' → Enters (Value k)
    ask_enters valid k r h =
        sweep_enters (Value k) (λ _ _. refl) valid (refuse_value s.tape (length s.row) k) k r (λ a. a.worked) (λ a. WasAsked o means s k a.value a.worked s') (λ a d. d.after) h

    -- a call that only looks
    pub look_enters : (call : Call K) → ((room : ℕ) (b : Book M) → feed means room b call ≡ b) → s' ≡ s → Enters call
    look_enters call looks same room b kept = subst (λ c. Keeps o means room c s') (sym (looks room b)) (subst (Keeps o means room b) (sym same) kept)

    module _ (room : ℕ) (b : Book M) (kept : Keeps o means room b s) where
      -- a call is judged by the book as by the session
      pub judged_alike : (k : ℕ) → refuse_register s.tape (length s.row) k ≡ refuse_register b.tape room k
      judged_alike k = ap (λ n. refuse_register s.tape n k) kept.long ∙ ap (λ c. refuse_register c.tape room k) kept.entered

      -- a run does not reach the refusal of a short row
      pub full : registers b.tape ≤ room
      full = subst (λ c. registers c.tape ≤ room) kept.entered (omega (arith, kept.good.fits, kept.long))

      pub never_short : (k : ℕ) → refuse_register b.tape room k ≡ cause (leb (registers b.tape) k) (naming 5 k) None
      never_short k = let fits = full in grind (arith, nat_tests)

      -- after a sweep the row holds the values that the definitions give, and what is asked for is one of them
      module _ (k worked : ℕ) (valid : Valid s.tape) (free : refuse_register b.tape room k ≡ None) (done : WasSwept o means s k worked s') where
        abbrev after : State K
        after = record { tape = s.tape; row = s'.row; marks = s'.marks }

        after_keeps : Keeps o means (length s.row) (book o means s) after
        after_keeps = arrives o means (sym (state_by o means s' done.tape refl refl)) (sweep_keeps o means s s' k worked valid.below kept.good done)

        there : k < registers s.tape
        there = let again : refuse_register s.tape (length s.row) k ≡ None = judged_alike k ∙ free in grind (arith, nat_tests)

        clear : (j : ℕ) → s.tape.controls + j ≤ k → mark s'.marks j ≡ false
        clear j under = done.swept.clear j (omega arith)

        pub swept_values : take (k + 1) (values o b.controls b.tape.lines) ≡ take (k + 1) (map means s'.row)
        swept_values =
            ap (λ c. take (k + 1) (values o c.controls c.tape.lines)) (sym (after_keeps.entered ∙ kept.entered))
            ∙ row_is o means after k valid.below after_keeps.good clear there

        pub swept_worth : worth o b k ≡ at o (map means s'.row) k
        swept_worth = ap (λ c. worth o c k) (sym (after_keeps.entered ∙ kept.entered)) ∙ worth_is o means after k valid.below after_keeps.good clear there

      pub right_answer : (k : ℕ) (x : K) (worked : ℕ) → Valid s.tape → refuse_register b.tape room k ≡ None → WasAsked o means s k x worked s' → means x ≡ worth o b k
      right_answer k x worked valid free done =
          let within : k < length s'.row = omega (arith, there k worked valid free done.after, kept.good.fits, done.after.swept.room) in
          read means s'.row k x o.zero within done.entry ∙ sym (swept_worth k worked valid free done.after)
