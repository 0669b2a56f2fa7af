-- The end of a run. Assumes nothing.
use Rattle.std.proofs.Common.{◌≡◌, ℕ, List, ◌++◌, ◌≤◌, map, length, take, drop, replicate, Some, None, Ok, Err, Option, Result, sym, refl, ap, ◌∙◌, subst, arith}
use Rattle.std.proofs.lemmas.List.{take_all, take_at, length-take-le}
use Rattle.std.specs.Result.{result_unwrap_or}
use Rattle.std.proofs.lemmas.Bool.Decides.{nat_tests}
use Rattle.kind.specs.Kinds.{Operations}
use Rattle.packed.specs.Formats.{tape_of}
use Rattle.packed.specs.Looks.{fault_of}
use Rattle.packed.proofs.RoundTrips.{file_accepted, reads_back}
use Rattle.packed.specs.Writing.{Saved, refuse_save}
use Rattle.session.specs.Books.{Book}
use Rattle.session.specs.Refusals.{refuse_show}
use Rattle.session.specs.Rows.{copied, shared}
use Rattle.session.specs.Runs.{Good, Keeps, book}
use Rattle.session.specs.States.{Shows, State}
use Rattle.sweep.specs.Forward.{given}
use Rattle.tape.specs.declared.refusals.Refusal.{Refusal}
use Rattle.tape.specs.Refusals.{Answered, Notice, notice}
use Rattle.tape.proofs.Answering.{carried_out, not_declined, why_declined}
use Rattle.tape.specs.Tapes.{Tape, Valid}
use Rattle.export.specs.declared.faults.ExportFault.{ExportFault}
use Rattle.replay.specs.Answers.{Replied, exported, said}
use Rattle.replay.specs.declared.findings.Finding.{Finding}
use Rattle.replay.specs.declared.outcomes.Outcome.{Outcome}
use Rattle.replay.specs.declared.queries.Query.{Query}
use Rattle.replay.specs.declared.outcomes.ReplayFault.TheVariants.{Declined, Memory}
use Rattle.replay.specs.Replays.{AnswersRun, Consistent}
use Rattle.replay.specs.Parties.{FileReplied, SessionReplied, SheetReplied}
use Rattle.replay.specs.Replies.{Front, ReplyOf}
use Rattle.replay.proofs.Telling.{begins, goes_on, as_export, export_says, told_is}

module _ {K M : Type 0} (o : Operations M) (means : K → M) (s : State K) (valid : Valid s.tape) where
  -- the controls copied out of a session in order, to a row that has room for them
  pub copied_controls : Good o means s → (out out' : List K) (r : Result (Unit {0}) Refusal) → s.tape.controls ≤ length out → Shows s out r out' → given means s.tape out' ≡ given means s.tape s.row
  copied_controls good out out' r long shows =
      let n = s.tape.controls in
      let fits = good.fits in
      let free : refuse_show s.tape (length s.row) (length out) ≡ None = grind (arith, nat_tests) in
      let is = carried_out (refuse_show s.tape (length s.row) (length out)) r (out' ≡ out) (λ _. out' ≡ copied n s.row out) free shows in
      let m = shared n s.row out in
      let all : m ≡ n = omega arith in
      let first : take n (take m s.row ++ drop m out) ≡ take n s.row =
      take_at (take m s.row) (drop m out) n (length-take-le m s.row (omega arith) ∙ all) ∙ ap (λ k. take k s.row) all in
      ap (map means) (ap (take n) is.1 ∙ first)

  -- a file saved in the longest file's room
  pub saved_file : (before after : List ℕ) (r : Result ℕ Refusal) (same : Type 0) → length before ≡ 4483 → Answered (refuse_save s.tape (length before)) r same (Saved s.tape before after)
      → Saved s.tape before after (result_unwrap_or r 0)
  saved_file before after r same long h = go r h
    where
      free : refuse_save s.tape (length before) ≡ None
      free = let lines = valid.few_lines in grind (arith, nat_tests)

      go : (r : Result ℕ Refusal) → Answered (refuse_save s.tape (length before)) r same (Saved s.tape before after) → Saved s.tape before after (result_unwrap_or r 0)
      go (Ok size) h = (not_declined (refuse_save s.tape (length before)) size same (Saved s.tape before after) h).1
      go (Err e) h = let none = free in let why = why_declined (refuse_save s.tape (length before)) e same (Saved s.tape before after) h in let z : ◌≡◌ {A = ℕ} 0 1 = cc in absurd (omega arith)

  -- all that a report says, of a session in order
  pub consistent : (q : Query K) (sheet : Tape) (out : Outcome K) (controls row : List K)
      → (a : Result (Finding K) Refusal) (e : Result (Finding K) ExportFault) (b : Result (Finding K) Refusal)
      → (Good o means s → map means controls ≡ given means s.tape s.row) → length controls ≡ s.tape.controls
      → (Good o means s → given means s.tape row ≡ given means s.tape s.row) → length row ≡ 128
      → Saved s.tape (replicate 4483 0) out.file out.length
      → Front o means controls out.controls
      → SessionReplied o means s q (said means a) → ReplyOf o means (as_export a) out.session
      → FileReplied o means (take out.length out.file) controls q (exported means e) → ReplyOf o means e out.from_file
      → SheetReplied o means sheet row q (said means b) → ReplyOf o means (as_export b) out.on_sheet
      → (room : ℕ) (b : Book M) → Keeps o means room b s → Consistent o means b q sheet out
  consistent q sheet out controls row a e b copy count copy_row row_count saved front session session_is from_file file_is on_sheet sheet_is room book_of kept =
      subst (λ c. Consistent o means c q sheet out) kept.entered own
    where
      t : Tape
      t = s.tape

      few : t.controls ≤ 128
      few = valid.few_controls

      file : List ℕ
      file = take out.length out.file

      same : given means t controls ≡ given means t s.row
      same = ap (map means) (take_all t.controls controls (omega (arith, count))) ∙ copy kept.good

      none : fault_of file ≡ None
      none = file_accepted t file valid saved.file

      means_t : tape_of file ≡ t
      means_t = reads_back t file valid saved.file

      enough : sheet ≡ t → sheet.controls ≤ length row
      enough is = subst (λ u. u.controls ≤ length row) (sym is) (omega (arith, few, row_count))

      exports : Replied o t (given means t s.row) means q (exported means e)
      exports = subst (λ cs. Replied o t cs means q (exported means e)) same (subst (λ u. Replied o u (given means u controls) means q (exported means e)) means_t (from_file (count ∙ ap (λ u. u.controls) (sym means_t)) none))

      over_sheet : sheet ≡ t → Replied o t (given means t s.row) means q (said means b)
      over_sheet is = subst (λ cs. Replied o t cs means q (said means b)) (copy_row kept.good) (subst (λ u. Replied o u (given means u row) means q (said means b)) is (on_sheet (enough is)))

      own : Consistent o means (book o means s) q sheet out
      own = record {
        session = told_is o means t few (given means t s.row) q (as_export a) out.session (export_says o means t (given means t s.row) q a (session kept.good)) session_is;
        from_file = told_is o means t few (given means t s.row) q e out.from_file exports file_is;
        on_sheet = λ is. told_is o means t few (given means t s.row) q (as_export b) out.on_sheet (export_says o means t (given means t s.row) q b (over_sheet is)) sheet_is;
        controls = begins o means t few controls out.controls count front ∙ copy kept.good;
        controls_rest = goes_on o means t few controls out.controls count front;
        file = saved.file;
        rest = saved.rest;
      }

-- a run by the cause that there is, or is not, to decline its opening

module _ {K M : Type 0} (o : Operations M) (means : K → M) (b : Book M) (q : Query K) (sheet : Tape) (before after : Outcome K) where
  pub run_declined : (why : Option Notice) (e : Refusal) → why ≡ Some (notice e) → after ≡ before → AnswersRun o means why b q sheet before after (Err (Declined e))
  run_declined why e is kept = subst (λ w. AnswersRun o means w b q sheet before after (Err (Declined e))) (sym is) (refl, kept)

  pub run_without_memory : (why : Option Notice) → after ≡ before → AnswersRun o means why b q sheet before after (Err Memory)
  run_without_memory (Some w) kept = kept
  run_without_memory None kept = kept

  pub run_done : (why : Option Notice) (u : Unit {0}) → why ≡ None → Consistent o means b q sheet after → AnswersRun o means why b q sheet before after (Ok u)
  run_done why u free is = subst (λ w. AnswersRun o means w b q sheet before after (Ok u)) (sym free) is
