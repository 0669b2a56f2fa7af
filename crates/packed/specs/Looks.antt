-- What the reader looks for in a file, in order, and what each look finds. Assumes nothing.
use Rattle.std.specs.Prelude.{ℕ, ◌+◌, ◌-◌, ◌*◌, Bool, cond, ◌&&◌, ◌||◌, List, [], ◌∷◌, ◌++◌, length, Some, None, Option, ◌==◌, nat_le, nat_lt}
use Rattle.std.specs.List.{flat_map, range_with_len}
use Rattle.packed.specs.Bits.{field}
use Rattle.packed.specs.Formats.{line_start, file_length}
use Rattle.packed.specs.Faults.{Finding, in_file, in_line, naming}

-- a test, and what is found where it holds
pub record Look : Type 0 where
  pub finds : Bool
  pub what : Finding

abbrev pub look : Bool → Finding → Look
look finds what = record { finds = finds; what = what }

-- the first look that finds something decides
abbrev pub first_found : List Look → Option Finding
first_found [] = None
first_found (l ∷ ls) = cond l.finds (Some l.what) (first_found ls)

abbrev pub head_looks : List ℕ → List Look
head_looks bytes =
    let size = length bytes in
    let controls = field bytes 0 8 in
    let lines = field bytes 8 11 in
    look (nat_lt size 3) (in_file 7 (8 * size))
    ∷ (look (nat_lt controls 1 || nat_lt 128 controls) (in_file 1 0)
    ∷ (look (nat_lt 1024 lines) (in_file 3 8)
    ∷ (look (nat_lt size (file_length lines)) (in_file 7 (8 * size))
    ∷ (look (nat_lt (file_length lines) size) (in_file 8 (8 * file_length lines))
    ∷ []))))

-- at line j: its kind, then its registers, which are below its own, then the field that an opposite has to spare
abbrev pub line_looks : List ℕ → (controls j : ℕ) → List Look
line_looks bytes controls j =
    let at = line_start j in
    let own = controls + j in
    let kind = field bytes at 3 in
    let first = field bytes (at + 3) 16 in
    let second = field bytes (at + 19) 16 in
    look (nat_lt 4 kind) (in_line 4 j at)
    ∷ (look (nat_lt 0 kind && nat_le own first) (naming 5 j first (at + 3))
    ∷ (look (nat_lt 0 kind && (nat_lt kind 4 && nat_le own second)) (naming 5 j second (at + 19))
    ∷ (look (kind == 4 && nat_lt 0 second) (in_line 9 j (at + 19))
    ∷ [])))

-- at the bits from `end` on, where the last line ends
abbrev pub closing_looks : List ℕ → (end : ℕ) → List Look
closing_looks bytes end = look (nat_lt 0 (field bytes end (8 * length bytes - end))) (in_file 8 end) ∷ []

abbrev pub looks : List ℕ → List Look
looks bytes =
    let controls = field bytes 0 8 in
    let lines = field bytes 8 11 in
    head_looks bytes ++ (flat_map (line_looks bytes controls) (range_with_len 0 lines) ++ closing_looks bytes (line_start lines))

-- what is wrong with a file, if anything is
unfoldable pub fault_of : List ℕ → Option Finding
fault_of bytes = first_found (looks bytes)
