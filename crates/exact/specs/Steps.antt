-- What a step range is, and what the call leaves. Assumes nothing.
use Rattle.std.specs.Prelude.{◌≡◌, ℕ, List, Result}
use Rattle.kind.specs.Capped.{size_operations}
use Rattle.tape.specs.declared.refusals.Refusal.{Refusal}
use Rattle.exact.specs.declared.answers.StepRange.{StepRange}
use Rattle.exact.specs.Exact.{Work, Worked, lengths}
use Rattle.exact.specs.Ranges.{KeepsAll, Range}
use Rattle.exact.specs.Refusals.{AnsweredAfter, refuse_registers, refuse_sizes}
use Rattle.exact.specs.Wholes.{Question, image_pair, whole_slope, whole_value}

-- the steps that keep the tests of all registers of the list, by their whole-number values and slopes
abbrev pub KeepsTests : Question → List ℕ → StepRange → Type 0
KeepsTests q tests range = Range (KeepsAll (whole_value q) (whole_slope q) tests) range.low range.high

abbrev pub Steps : Question → List ℕ → (old new : Work) → Result StepRange Refusal → Type 0
Steps q tests old new res =
    AnsweredAfter (refuse_registers q.tape (lengths q old) tests) (refuse_sizes (image_pair q size_operations) tests) res (new ≡ old) (Worked q old new) (KeepsTests q tests)
