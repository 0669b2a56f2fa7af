-- What is told of a declined call. Assumes nothing.
use Rattle.std.specs.Prelude.{ℕ, Some, None, Option}
use Rattle.packed.specs.Faults.{finding}
use Rattle.tape.specs.Refusals.{Notice, notice}
use Rattle.pose.specs.declared.declines.Decline.{Decline}
use Rattle.pose.specs.declared.declines.Decline.TheVariants.{Control, Query, Line, File}

-- a number, and what it names
abbrev pub notice_of : Decline → Notice
notice_of (Control e) = notice e
notice_of (Query e) = notice e
notice_of (Line e) = notice e
notice_of (File f) = record { number = (finding f).number; named = (finding f).named }

-- only a file's fault lies at a bit
abbrev pub bit_of : Decline → Option ℕ
bit_of (Control e) = None
bit_of (Query e) = None
bit_of (Line e) = None
bit_of (File f) = Some (finding f).bit
