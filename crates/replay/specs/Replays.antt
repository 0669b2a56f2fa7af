-- From-scratch consistency: in every run the session and the exporter, which starts from the saved file and keeps nothing, answer
-- alike, and both answer what the definitions give for the book's tape and controls. Assumes nothing.
use Rattle.std.specs.Prelude.{◌≡◌, ℕ, List, length, take, drop, replicate, Some, None, Ok, Err, Option, Result}
use Rattle.kind.specs.Kinds.{Operations}
use Rattle.packed.specs.Formats.{Packed}
use Rattle.session.specs.Books.{Book, kept}
use Rattle.session.specs.declared.calls.Call.{Call}
use Rattle.session.specs.Refusals.{refuse_open}
use Rattle.session.specs.Runs.{Keeps}
use Rattle.session.specs.States.{State}
use Rattle.sweep.specs.Forward.{given}
use Rattle.tape.specs.Refusals.{Notice, notice}
use Rattle.tape.specs.Tapes.{Tape}
use Rattle.replay.specs.declared.outcomes.Outcome.{Outcome}
use Rattle.replay.specs.declared.outcomes.ReplayFault.{ReplayFault}
use Rattle.replay.specs.declared.outcomes.ReplayFault.TheVariants.{Declined, Memory}
use Rattle.replay.specs.declared.queries.Query.{Query}
use Rattle.replay.specs.Replies.{Padded, Told}

module _ {K M : Type 0} (o : Operations M) (means : K → M) where
  -- both parties answer the query as the definitions do for the tape and the controls of the book, on the file of that tape, and on
  -- every sheet that means it
  pub record Consistent (b : Book M) (q : Query K) (sheet : Tape) (out : Outcome K) : Type 0 where
    pub session : Told o means b.tape b.controls q out.session
    pub from_file : Told o means b.tape b.controls q out.from_file
    pub on_sheet : sheet ≡ b.tape → Told o means b.tape b.controls q out.on_sheet
    pub controls : given means b.tape out.controls ≡ b.controls
    pub controls_rest : Padded o means b.tape out.controls
    pub file : Packed b.tape (take out.length out.file)
    pub rest : drop out.length out.file ≡ drop out.length (replicate 4483 0)

  abbrev pub Reported : State K → Query K → Tape → Outcome K → Type 0
  Reported s q sheet out = (room : ℕ) (b : Book M) → Keeps o means room b s → Consistent b q sheet out

  -- a run is declined as its opening is; any other is consistent, whatever its calls; only want of memory may come between
  abbrev pub AnswersRun : Option Notice → Book M → Query K → Tape → (before after : Outcome K) → Result (Unit {0}) ReplayFault → Type 0
  AnswersRun (Some why) b q sheet before after (Ok _) = ⊥
  AnswersRun (Some why) b q sheet before after (Err (Declined e)) = (notice e ≡ why) × (after ≡ before)
  AnswersRun (Some why) b q sheet before after (Err Memory) = after ≡ before
  AnswersRun None b q sheet before after (Ok _) = Consistent b q sheet after
  AnswersRun None b q sheet before after (Err (Declined e)) = ⊥
  AnswersRun None b q sheet before after (Err Memory) = after ≡ before

  abbrev pub Replayed : (n : ℕ) (rest : List K) (room : ℕ) → List (Call K) → Query K → Tape → (before after : Outcome K) → Result (Unit {0}) ReplayFault → Type 0
  Replayed n rest room calls q sheet before after r = AnswersRun (refuse_open n (length rest) room) (kept means n rest room calls) q sheet before after r
