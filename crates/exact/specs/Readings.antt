-- What the working rows show at a register. Assumes nothing.
use Rattle.std.specs.Prelude.{◌≡◌, ℕ, List, map, ℤ}
use Rattle.std.specs.Int.{w64}
use Rattle.std.proofs.Common.{to_z}
use Rattle.kind.specs.declared.capped.Size.{Size}
use Rattle.kind.specs.declared.dual.Pair.{Pair}
use Rattle.kind.specs.declared.wrapping.Ticks.{Ticks}
use Rattle.kind.specs.Capped.{Capped, size, size_operations}
use Rattle.kind.specs.Dual.{Dual, dual, dual_operations}
use Rattle.kind.specs.Wrapping.{Word, tick, tick_operations}
use Rattle.tape.specs.Rows.{at}
use Rattle.exact.specs.declared.answers.Whole.{Whole}

abbrev pub words_at : List (Pair Ticks) → ℕ → Dual Word
words_at row r = at (dual_operations tick_operations) (map (dual tick) row) r

abbrev pub sizes_at : List (Pair Size) → ℕ → Dual Capped
sizes_at row r = at (dual_operations size_operations) (map (dual size) row) r

-- the signed reading of a word
abbrev pub signed_word : Word → ℤ
signed_word w = to_z w64 w.number

abbrev pub read_value : List (Pair Ticks) → ℕ → ℤ
read_value row r = signed_word (words_at row r).value

abbrev pub read_slope : List (Pair Ticks) → ℕ → ℤ
read_slope row r = signed_word (words_at row r).tangent

-- both words in the signed reading
pub record Reads (d : Dual Word) (a : Whole) : Type 0 where
  pub value : a.value ≡ signed_word d.value
  pub slope : a.slope ≡ signed_word d.tangent
