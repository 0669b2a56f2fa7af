-- What an exact answer is, and what the call leaves. Assumes nothing.
use Rattle.std.specs.Prelude.{◌≡◌, ℕ, ◌-◌, ◌<◌, false, List, [], ◌∷◌, length, Result, slice_index}
use Rattle.kind.specs.declared.capped.Size.{Size}
use Rattle.kind.specs.declared.dual.Pair.{Pair}
use Rattle.kind.specs.declared.wrapping.Ticks.{Ticks}
use Rattle.kind.specs.Capped.{size, size_operations}
use Rattle.kind.specs.Dual.{dual, dual_operations}
use Rattle.kind.specs.Kinds.{Operations}
use Rattle.kind.specs.Wrapping.{tick, tick_operations}
use Rattle.sweep.specs.Forward.{Filled}
use Rattle.tape.specs.declared.refusals.Refusal.{Refusal}
use Rattle.tape.specs.Tapes.{registers}
use Rattle.exact.specs.declared.answers.Whole.{Whole}
use Rattle.exact.specs.Refusals.{AnsweredAfter, Lengths, refuse_registers, refuse_sizes, too_short}
use Rattle.exact.specs.Wholes.{Question, image_pair, images, whole_slope, whole_value}

-- The two working rows.
pub record Work : Type 0 where
  pub pairs : List (Pair Ticks)
  pub sizes : List (Pair Size)

abbrev pub work : List (Pair Ticks) → List (Pair Size) → Work
work pairs sizes = record { pairs = pairs; sizes = sizes }

abbrev pub lengths : Question → Work → Lengths
lengths q w = record { controls = length q.controls; direction = length q.direction; pairs = length w.pairs; sizes = length w.sizes }

-- every register of the list is one of the tape, and no row is too short
pub record Admitted (q : Question) (tests : List ℕ) (w : Work) : Type 0 where
  pub known : (i : ℕ) → i < length tests → slice_index tests i < registers q.tape
  pub room : too_short q.tape (lengths q w) ≡ false

-- a row has the pair of every register, from the images, and every later entry as it was
abbrev pub FilledWhole : {K M : Type 0} → Operations M → (K → M) → Question → (old new : List (Pair K)) → Type 0
FilledWhole o means q old new = Filled (dual_operations o) (dual means) q.tape (images q o) (registers q.tape - 1) old new

pub record Worked (q : Question) (old new : Work) : Type 0 where
  pub pairs : FilledWhole tick_operations tick q old.pairs new.pairs
  pub sizes : FilledWhole size_operations size q old.sizes new.sizes

-- the whole-number value and slope
pub record IsExact (q : Question) (r : ℕ) (a : Whole) : Type 0 where
  pub value : a.value ≡ whole_value q r
  pub slope : a.slope ≡ whole_slope q r

abbrev pub Exact : Question → ℕ → (old new : Work) → Result Whole Refusal → Type 0
Exact q r old new res =
    AnsweredAfter (refuse_registers q.tape (lengths q old) (r ∷ [])) (refuse_sizes (image_pair q size_operations) (r ∷ [])) res (new ≡ old) (Worked q old new) (IsExact q r)
