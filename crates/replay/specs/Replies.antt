-- What a reply means, whose rows have 128 entries. Assumes nothing.
use Rattle.std.specs.Prelude.{◌≡◌, ◌-◌, List, map, length, take, drop, replicate, Ok, Err, Result}
use Rattle.export.specs.declared.faults.ExportFault.{ExportFault}
use Rattle.export.specs.declared.faults.ExportFault.TheVariants.{File, Query as QueryFault}
use Rattle.kind.specs.Kinds.{Operations}
use Rattle.packed.specs.Faults.{finding}
use Rattle.sweep.specs.Forward.{given}
use Rattle.tape.specs.Refusals.{notice}
use Rattle.tape.specs.Tapes.{Tape}
use Rattle.replay.specs.declared.findings.Finding.{Finding as TheFinding}
use Rattle.replay.specs.declared.findings.Finding.TheVariants as found
use Rattle.replay.specs.declared.queries.Query.{Query}
use Rattle.replay.specs.declared.replies.Reply.{Reply}
use Rattle.replay.specs.declared.replies.Reply.TheVariants as reply
use Rattle.replay.specs.Answers.{Answer, Replied, value, gradient, slope, bend, declined, broken}

module _ {K M : Type 0} (o : Operations M) (means : K → M) where
  -- a row of 128 entries: the first are those of another row, as they are held, and then come zeros
  pub record Front (entries row : List K) : Type 0 where
    pub first : take (length entries) row ≡ take 128 entries
    pub rest : drop (length entries) (map means row) ≡ replicate (128 - length entries) o.zero

  -- the reply that an answer is
  abbrev pub ReplyOf : Result (TheFinding K) ExportFault → Reply K → Type 0
  ReplyOf (Ok (found.Value x)) r = r ≡ reply.Value x
  ReplyOf (Ok (found.Gradient x entries operations)) r = (row : List K) × (r ≡ reply.Gradient x row operations) × Front entries.items row
  ReplyOf (Ok (found.Slope x)) r = r ≡ reply.Slope x
  ReplyOf (Ok (found.Bend entries)) r = (row : List K) × (r ≡ reply.Bend row) × Front entries.items row
  ReplyOf (Err (QueryFault e)) r = r ≡ reply.Declined e
  ReplyOf (Err (File e)) r = r ≡ reply.Broken e

  module _ (t : Tape) where
    -- what a reply means, of whose rows the first entries count
    abbrev pub told : Reply K → Answer M
    told (reply.Value x) = value (means x)
    told (reply.Gradient x entries operations) = gradient (means x) (given means t entries) operations
    told (reply.Slope x) = slope (means x)
    told (reply.Bend entries) = bend (given means t entries)
    told (reply.Declined e) = declined (notice e)
    told (reply.Broken e) = broken (finding e)

    -- zeros follow the entries of the controls
    abbrev pub Padded : List K → Type 0
    Padded row = drop t.controls (map means row) ≡ replicate (128 - t.controls) o.zero

    abbrev pub Rest : Reply K → Type 0
    Rest (reply.Value x) = Unit {0}
    Rest (reply.Gradient x entries operations) = Padded entries
    Rest (reply.Slope x) = Unit {0}
    Rest (reply.Bend entries) = Padded entries
    Rest (reply.Declined e) = Unit {0}
    Rest (reply.Broken e) = Unit {0}

    -- the reply means what the definitions answer, which keeps the laws, and in its rows zeros follow
    pub record Told (cs : List M) (q : Query K) (r : Reply K) : Type 0 where
      pub replied : Replied o t cs means q (told r)
      pub rest : Rest r
