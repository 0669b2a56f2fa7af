-- Every call keeps a session in order: an unmarked line's number is right, and it reads no stale line. Assumes nothing.
use Rattle.std.proofs.Common.{◌≡◌, ℕ, zero, suc, ◌+◌, ◌-◌, ◌<◌, ◌≤◌, Bool, true, false, eqb, leb, ◌≢◌, List, [], ◌∷◌, ◌++◌, map, length, get_or, take, set, pos, None, Option, Result, sym, refl, ap, ◌∙◌, subst, ⊎_elim, arith, length-set, length-take}
use lib.Seq.{take-set-lt}
use Rattle.std.proofs.lemmas.Bool.{leb-false, eqb-false, cases_lt, cases_Bool, or_parts, true≢false}
use Rattle.std.proofs.lemmas.List.{get_or-take, get_or-set_same, get_or-set_other, get_or_append_left, length_push, map-set, take-map, length-map}
use Rattle.kind.specs.Kinds.{Operations}
use Rattle.tape.specs.declared.lines.Line.{Line}
use Rattle.tape.specs.declared.lines.Line.TheVariants.{Constant}
use Rattle.tape.specs.declared.refusals.Refusal.{Refusal}
use Rattle.tape.specs.Lines.{reads}
use Rattle.tape.specs.Marks.{mark, stale_register, touched, NotStale, Swept, count_to}
use Rattle.tape.specs.Refusals.{Answered, Notice}
use Rattle.tape.specs.Rows.{at}
use Rattle.tape.specs.Tapes.{Tape, line, nth, registers, ReadsBelow}
use Rattle.tape.specs.Values.{applied}
use Rattle.tape.proofs.Answering.{answered}
use Rattle.tape.proofs.Growing.{same_to}
use Rattle.tape.proofs.Marking.{stale_at, stale_fewer, stale_none, cleared, spared, untouched_fresh}
use Rattle.tape.proofs.Reading.{reads_agree, reads_fewer, applied_agree}
use Rattle.tape.proofs.Spreading.{stale_agree}
use Rattle.tape.proofs.Sweeping.{number_other}
use Rattle.session.specs.Books.{Book, unless}
use Rattle.session.specs.Runs.{book, Good, Keeps}
use Rattle.session.specs.States.{State, WasSet, WasAdded, WasChanged, WasDropped, WasSwept, with_line, with_line_at, without_last}

module _ {K M : Type 0} (o : Operations M) (means : K → M) where
  -- s' is in order, and its book is b
  abbrev pub Step : State K → State K → Book M → Type 0
  Step s s' b = Keeps o means (length s.row) b s'

  -- a state by its parts
  pub state_by : {tape : Tape} {row : List K} {marks : List Bool} (s : State K) → s.tape ≡ tape → s.row ≡ row → s.marks ≡ marks
      → record { tape = tape; row = row; marks = marks } ≡ s
  state_by s e f g = λ i. record { tape = sym e i; row = sym f i; marks = sym g i }

  pub arrives : {room : ℕ} {b : Book M} {t s : State K} → t ≡ s → Keeps o means room b t → Keeps o means room b s
  arrives {room} {b} e keeps = subst (Keeps o means room b) e keeps

  -- a call is declined and nothing changes, or it is done
  pub by_table : {R : Type 0} (why : Option Notice) (r : Result R Refusal) (s s' : State K) (done : R → Type 0) (edited : Book M)
      → Good o means s → ((v : R) → why ≡ None → done v → Step s s' edited)
      → Answered why r (s' ≡ s) done → Step s s' (unless why (book o means s) edited)
  by_table why r s s' done edited good works h =
      answered (λ w _. Step s s' (unless w (book o means s) edited)) why r (λ e same. arrives (sym same) (record { good = good; long = refl; entered = refl })) works h

  pub set_keeps : (s s' : State K) (i : ℕ) (x : K) → i < s.tape.controls → Good o means s → WasSet s i x s'
      → Step s s' (record { tape = s.tape; controls = set (book o means s).controls i (means x) })
  set_keeps s s' i x control good done = arrives (state_by s' done.tape done.row refl) (record {
    good = record {
      fits = simp length-set good.fits;
      right = λ j h clean.
          let spare = spared done.marks j h clean in
          let other : n + j ≢ i = omega arith in
          number_other o means s.row i (n + j) x other
          ∙ good.right j h spare.0
          ∙ applied_agree o (touched n i s'.marks) _ _
          (λ k e. sym (number_other o means s.row i k x (eqb-false k i (or_parts (eqb k i) _ e).0))) (line s.tape j) spare.1;
      fresh = λ j h clean. untouched_fresh n i (line s.tape j) s'.marks (spared done.marks j h clean).1;
    };
    long = length-set s.row i x;
    entered = ap (λ c. record { tape = s.tape; controls = c }) (ap (map means) (take-set-lt n s.row i x control) ∙ map-set means (take n s.row) i x);
  })
    where
      n : ℕ
      n = s.tape.controls

  pub add_keeps : (s s' : State K) (l : Line) (k : ℕ) → length s.tape.lines < length s.marks → registers s.tape < length s.row
      → ReadsBelow s.tape.controls s.tape.lines → Good o means s → WasAdded s l k s'
      → Step s s' (record { tape = with_line s.tape l; controls = (book o means s).controls })
  add_keeps s s' l k marked free below good done = arrives (state_by s' done.tape done.row done.marks) (record {
    good = record {
      fits = simp length_push (omega arith);
      right = λ j h clean.
          let old = earlier j h clean in
          good.right j old (was j old clean) ∙ ap (applied o (at o (map means s.row))) (sym (line_is j old));
      fresh = λ j h clean.
          let old = earlier j h clean in
          ap (λ m. reads m (stale_register n (set s.marks last true))) (line_is j old)
          ∙ reads_agree (leb (n + j)) _ _
          (λ q low. stale_agree n q (set s.marks last true) s.marks
          (λ i e. let other : i ≢ last = omega (arith, leb-false (n + j) q low) in get_or-set_other s.marks last i true false other))
          (line s.tape j) (below j old)
          ∙ good.fresh j old (was j old clean);
    };
    long = refl;
    entered = refl;
  })
    where
      n : ℕ
      n = s.tape.controls

      last : ℕ
      last = length s.tape.lines

      earlier : (j : ℕ) → j < length (s.tape.lines ++ (l ∷ [])) → mark (set s.marks last true) j ≡ false → j < last
      earlier j h clean = ⊎_elim
          (λ (before : j < last). before)
          (λ (past : last ≤ j).
          let same : last ≡ j = omega (arith, length_push s.tape.lines l) in
          absurd (true≢false (sym (get_or-set_same s.marks last true false marked) ∙ ap (mark (set s.marks last true)) same ∙ clean)))
          (cases_lt j last)

      was : (j : ℕ) → j < last → mark (set s.marks last true) j ≡ false → mark s.marks j ≡ false
      was j old clean = let other : j ≢ last = omega arith in sym (get_or-set_other s.marks last j true false other) ∙ clean

      line_is : (j : ℕ) → j < last → nth (s.tape.lines ++ (l ∷ [])) j ≡ line s.tape j
      line_is j old = get_or_append_left s.tape.lines (l ∷ []) (Constant (pos 0)) j old

  pub change_keeps : (s s' : State K) (k : ℕ) (l : Line) → s.tape.controls ≤ k → k < registers s.tape → length s.tape.lines ≤ length s.marks
      → Good o means s → WasChanged s k l s'
      → Step s s' (record { tape = with_line_at s.tape k l; controls = (book o means s).controls })
  change_keeps s s' k l low there marked good done = arrives (state_by s' done.tape done.row refl) (record {
    good = record {
      fits = simp length-set good.fits;
      right = λ j h clean.
          let other = elsewhere j h clean in
          good.right j (omega (arith, length-set s.tape.lines i l)) (sym (get_or-set_other s.marks i j true false other) ∙ (spared done.marks j h clean).0)
          ∙ ap (applied o (at o (map means s.row))) (sym (get_or-set_other s.tape.lines i j l (Constant (pos 0)) other));
      fresh = λ j h clean. untouched_fresh s.tape.controls k (nth (set s.tape.lines i l) j) s'.marks (spared done.marks j h clean).1;
    };
    long = refl;
    entered = refl;
  })
    where
      i : ℕ
      i = k - s.tape.controls

      elsewhere : (j : ℕ) → j < length (set s.tape.lines i l) → mark s'.marks j ≡ false → j ≢ i
      elsewhere j h clean e =
          let within : i < length s.marks = omega arith in
          true≢false
          (sym (get_or-set_same s.marks i true false within) ∙ ap (mark (set s.marks i true)) (sym e) ∙ (spared done.marks j h clean).0)

  pub drop_keeps : (s s' : State K) → Good o means s → WasDropped s s'
      → Step s s' (record { tape = without_last s.tape; controls = (book o means s).controls })
  drop_keeps s s' good done = arrives (state_by s' done.tape done.row done.marks) (record {
    good = record {
      fits = simp length-take (omega (arith, good.fits));
      right = λ j h clean.
          let old = before j h in
          good.right j (omega arith) (was j old clean) ∙ ap (applied o (at o (map means s.row))) (sym (line_is j old));
      fresh = λ j h clean.
          let old = before j h in
          ap (λ m. reads m (stale_register n (set s.marks last false))) (line_is j old)
          ∙ reads_fewer (stale_register n s.marks) (stale_register n (set s.marks last false))
          (λ k e. stale_fewer n k s.marks (set s.marks last false) (λ i _ f. cleared s.marks last i f) e)
          (line s.tape j) (good.fresh j (omega arith) (was j old clean));
    };
    long = refl;
    entered = refl;
  })
    where
      n : ℕ
      n = s.tape.controls

      last : ℕ
      last = length s.tape.lines - 1

      before : (j : ℕ) → j < length (take last s.tape.lines) → j < last
      before j h = omega (arith, length-take last s.tape.lines)

      was : (j : ℕ) → j < last → mark (set s.marks last false) j ≡ false → mark s.marks j ≡ false
      was j old clean = let other : j ≢ last = omega arith in sym (get_or-set_other s.marks last j false false other) ∙ clean

      line_is : (j : ℕ) → j < last → nth (take last s.tape.lines) j ≡ line s.tape j
      line_is j old = get_or-take last s.tape.lines j (Constant (pos 0)) old

  -- a row's number, where the row is kept
  pub number_kept : (row row' : List K) (k : ℕ) → length row' ≡ length row → ((d : K) → get_or row' k d ≡ get_or row k d) → at o (map means row') k ≡ at o (map means row) k
  number_kept [] [] k long kept = refl
  number_kept [] (y ∷ row') k long kept = absurd (omega arith)
  number_kept (x ∷ row) [] k long kept = absurd (omega arith)
  number_kept (x ∷ row) (y ∷ row') zero long kept = ap means (kept x)
  number_kept (x ∷ row) (y ∷ row') (suc k) long kept = number_kept row row' k (omega arith) kept

  pub sweep_keeps : (s s' : State K) (r worked : ℕ) → ReadsBelow s.tape.controls s.tape.lines → Good o means s → WasSwept o means s r worked s' → Step s s' (book o means s)
  sweep_keeps s s' r worked below good done = arrives (state_by s' done.tape refl refl) (record {
    good = record {
      fits = omega (arith, good.fits, swept.room);
      right = λ j h clean. ⊎_elim
          (λ (marked : mark s.marks j ≡ true). swept.done j (below_m j marked clean) marked)
          (λ (unmarked : mark s.marks j ≡ false).
          same (n + j) (λ i _ e. let back : i ≡ j = omega arith in ap (mark s.marks) back ∙ unmarked)
          ∙ good.right j h unmarked
          ∙ applied_agree o (stale_register n s.marks) _ _ (λ q f. sym (same q (standing q f))) (line s.tape j) (good.fresh j h unmarked))
          (cases_Bool (mark s.marks j));
      fresh = λ j h clean. ⊎_elim
          (λ (low : j < m). reads_fewer (leb (n + j)) (stale_register n s'.marks)
          (λ q f. stale_none n q s'.marks (λ i e. swept.clear i (omega (arith, leb-false (n + j) q f)))) (line s.tape j) (below j h))
          (λ (high : m ≤ j). reads_fewer (stale_register n s.marks) (stale_register n s'.marks)
          (λ q f. stale_fewer n q s.marks s'.marks (λ i _ was. fewer i was) f) (line s.tape j) (good.fresh j h (sym (swept.above j high) ∙ clean)))
          (cases_lt j m);
    };
    long = swept.room;
    entered = ap (λ c. record { tape = s.tape; controls = c })
        (sym (take-map means n s'.row)
        ∙ same_to n (map means s'.row) (map means s.row) o.zero (omega (arith, good.fits, swept.room, length-map s'.row means)) (omega (arith, good.fits, length-map s.row means))
        (λ i low _. same i (λ j _ e. absurd (omega arith)))
        ∙ take-map means n s.row);
  })
    where
      n : ℕ
      n = s.tape.controls

      m : ℕ
      m = count_to s.tape r

      swept : Swept o means s.tape m s.row s.marks s'.row s'.marks worked
      swept = done.swept

      below_m : (j : ℕ) → mark s.marks j ≡ true → mark s'.marks j ≡ false → j < m
      below_m j marked clean = ⊎_elim
          (λ (low : j < m). low)
          (λ (high : m ≤ j). absurd (true≢false (sym marked ∙ sym (swept.above j high) ∙ clean)))
          (cases_lt j m)

      same : (q : ℕ) → NotStale s.tape m s.marks q → at o (map means s'.row) q ≡ at o (map means s.row) q
      same q stands = number_kept s.row s'.row q swept.room (λ d. swept.kept q d stands)

      standing : (q : ℕ) → stale_register n s.marks q ≡ false → NotStale s.tape m s.marks q
      standing q f i _ e = sym (stale_at n i s.marks) ∙ ap (stale_register n s.marks) (sym e) ∙ f

      fewer : (i : ℕ) → mark s.marks i ≡ false → mark s'.marks i ≡ false
      fewer i was = ⊎_elim (λ (low : i < m). swept.clear i low) (λ (high : m ≤ i). swept.above i high ∙ was) (cases_lt i m)
