-- What it means that no look finds a fault. Assumes nothing.
use Rattle.std.proofs.Common.{◌≡◌, ℕ, zero, suc, ◌+◌, ◌-◌, ◌*◌, ◌<◌, ◌≤◌, ◌⊎◌, List, [], ◌∷◌, ◌++◌, length, Some, None, Option, sym, refl, ap, ◌∙◌, ap₂, ⊎_elim, arith}
use Rattle.std.specs.List.{flat_map, range_with_len}
use Rattle.std.proofs.lemmas.List.{append_assoc}
use Rattle.std.proofs.lemmas.Bool.Decides.{nat_tests}
use Rattle.std.proofs.lemmas.Bool.{cases_order}
use Rattle.packed.specs.Bits.{field}
use Rattle.packed.specs.Formats.{line_start, file_length}
use Rattle.packed.specs.Looks.{Look, first_found, head_looks, line_looks, closing_looks, fault_of}
use Rattle.packed.specs.Faults.{Finding}

-- ---- looks one after another

pub none_then : (xs ys : List Look) → first_found xs ≡ None → first_found (xs ++ ys) ≡ first_found ys
none_then [] ys e = refl
none_then (x ∷ xs) ys e = let rest = none_then xs ys in grind arith

pub some_then : (xs ys : List Look) (f : Finding) → first_found xs ≡ Some f → first_found (xs ++ ys) ≡ Some f
some_then [] ys f e = cc
some_then (x ∷ xs) ys f e = let rest = some_then xs ys f in grind arith

-- the looks at m lines from line j on, and at what follows
module _ (each : ℕ → List Look) (rest : List Look) where
  abbrev pub fault_from : ℕ → ℕ → Option Finding
  fault_from j m = first_found (flat_map each (range_with_len j m) ++ rest)

  pub one_none : (j m : ℕ) → first_found (each j) ≡ None → fault_from j (suc m) ≡ fault_from (j + 1) m
  one_none j m e = ap first_found (append_assoc (each j) (flat_map each (range_with_len (j + 1) m)) rest) ∙ none_then (each j) (flat_map each (range_with_len (j + 1) m) ++ rest) e

  pub one_some : (j m : ℕ) (f : Finding) → first_found (each j) ≡ Some f → fault_from j (suc m) ≡ Some f
  one_some j m f e = ap first_found (append_assoc (each j) (flat_map each (range_with_len (j + 1) m)) rest) ∙ some_then (each j) (flat_map each (range_with_len (j + 1) m) ++ rest) f e

-- ---- a file's looks: the head's, then each line's, then the closing bits'

module _ (bytes : List ℕ) where
  abbrev last : List Look
  last = closing_looks bytes (line_start (field bytes 8 11))

  abbrev past_head : List Look
  past_head = flat_map (line_looks bytes (field bytes 0 8)) (range_with_len 0 (field bytes 8 11)) ++ last

  -- the lines from j on, of m, decide
  abbrev pub lines_from : (controls j m : ℕ) → Option Finding
  lines_from controls j m = fault_from (line_looks bytes controls) last j (m - j)

  pub head_none : (controls lines : ℕ) → controls ≡ field bytes 0 8 → lines ≡ field bytes 8 11 → None ≡ first_found (head_looks bytes)
      → fault_of bytes ≡ lines_from controls 0 lines
  unfolding fault_of
  head_none controls lines n m none =
      let all : field bytes 8 11 ≡ lines - 0 = omega arith in
      none_then (head_looks bytes) past_head (sym none) ∙ ap₂ (λ n m. fault_from (line_looks bytes n) last 0 m) (sym n) all

  pub head_some : (f : Finding) → Some f ≡ first_found (head_looks bytes) → Some f ≡ fault_of bytes
  unfolding fault_of
  head_some f e = sym (some_then (head_looks bytes) past_head f (sym e))

  pub line_none : (controls j m : ℕ) → j < m → None ≡ first_found (line_looks bytes controls j) → lines_from controls j m ≡ lines_from controls (j + 1) m
  line_none controls j m h e =
      let each = line_looks bytes controls in
      let left : m - j ≡ suc (m - (j + 1)) = omega arith in
      ap (fault_from each last j) left ∙ one_none each last j (m - (j + 1)) (sym e)

  pub line_some : (controls j m : ℕ) (f : Finding) → j < m → Some f ≡ first_found (line_looks bytes controls j) → lines_from controls j m ≡ Some f
  line_some controls j m f h e =
      let each = line_looks bytes controls in
      let left : m - j ≡ suc (m - (j + 1)) = omega arith in
      ap (fault_from each last j) left ∙ one_some each last j (m - (j + 1)) f (sym e)

-- ---- a file whose head passes

pub record Headed (bytes : List ℕ) : Type 0 where
  pub three : 3 ≤ length bytes
  pub some : 1 ≤ field bytes 0 8
  pub few : field bytes 0 8 ≤ 128
  pub lines : field bytes 8 11 ≤ 1024
  pub exact : length bytes ≡ file_length (field bytes 8 11)

pub head_passes : (bytes : List ℕ) → first_found (head_looks bytes) ≡ None → Headed bytes
head_passes bytes e = record { three = grind (arith, nat_tests); some = grind (arith, nat_tests); few = grind (arith, nat_tests); lines = grind (arith, nat_tests); exact = grind (arith, nat_tests) }

-- ---- a line that passes

pub record Passing (own kind first second : ℕ) : Type 0 where
  pub kinds : kind ≤ 4
  pub below : 0 < kind → first < own
  pub both : 0 < kind → kind < 4 → second < own
  pub spare : kind ≡ 4 → second ≡ 0

pub line_passes : (bytes : List ℕ) (n j : ℕ) → first_found (line_looks bytes n j) ≡ None
    → Passing (n + j) (field bytes (line_start j) 3) (field bytes (line_start j + 3) 16) (field bytes (line_start j + 19) 16)
line_passes bytes n j e = record {
  kinds = grind (arith, nat_tests);
  below = λ p. grind (arith, nat_tests);
  both = λ p q. grind (arith, nat_tests);
  spare = λ p. grind (arith, nat_tests);
}

-- ---- a file without a fault

pub none_both : (xs ys : List Look) → first_found (xs ++ ys) ≡ None → (first_found xs ≡ None) × (first_found ys ≡ None)
none_both [] ys e = (refl, e)
none_both (x ∷ xs) ys e =
    let rest = none_both xs ys in
    let f = λ (h : first_found (xs ++ ys) ≡ None). (rest h).0 in
    let g = λ (h : first_found (xs ++ ys) ≡ None). (rest h).1 in
    (grind arith, grind arith)

pub none_each : (each : ℕ → List Look) (a m j : ℕ) → first_found (flat_map each (range_with_len a m)) ≡ None → a ≤ j → j < a + m → first_found (each j) ≡ None
none_each each a zero j e low high = absurd (omega arith)
none_each each a (suc m) j e low high =
    let parts = none_both (each a) (flat_map each (range_with_len (a + 1) m)) e in
    ⊎_elim (λ (h : a ≡ j). rw h at parts.0) (λ (h : (a < j) ⊎ (j < a)). none_each each (a + 1) m j parts.1 (omega arith) (omega arith)) (cases_order a j)

pub record Faultless (bytes : List ℕ) : Type 0 where
  pub headed : Headed bytes
  pub passing : (j : ℕ) → j < field bytes 8 11
      → Passing (field bytes 0 8 + j) (field bytes (line_start j) 3) (field bytes (line_start j + 3) 16) (field bytes (line_start j + 19) 16)
  pub closing : field bytes (line_start (field bytes 8 11)) (8 * length bytes - line_start (field bytes 8 11)) ≡ 0

pub faultless : (bytes : List ℕ) → fault_of bytes ≡ None → Faultless bytes
unfolding fault_of
faultless bytes e =
    let each = line_looks bytes (field bytes 0 8) in
    let lines = flat_map each (range_with_len 0 (field bytes 8 11)) in
    let parts = none_both (head_looks bytes) (lines ++ closing_looks bytes (line_start (field bytes 8 11))) e in
    let rest = none_both lines (closing_looks bytes (line_start (field bytes 8 11))) parts.1 in
    let last = rest.1 in
    record {
      headed = head_passes bytes parts.0;
      passing = λ j h. line_passes bytes (field bytes 0 8) j (none_each each 0 (field bytes 8 11) j rest.0 (omega arith) (omega arith));
      closing = grind (arith, nat_tests);
    }

-- ---- and back: such a file has no fault

pub head_clear : (bytes : List ℕ) → Headed bytes → first_found (head_looks bytes) ≡ None
head_clear bytes h = grind (arith, nat_tests)

pub line_clear : (bytes : List ℕ) (n j : ℕ)
    → Passing (n + j) (field bytes (line_start j) 3) (field bytes (line_start j + 3) 16) (field bytes (line_start j + 19) 16)
    → first_found (line_looks bytes n j) ≡ None
line_clear bytes n j p =
    let kinds = p.kinds in
    let below = p.below in
    let both = p.both in
    let spare = p.spare in
    grind (arith, nat_tests)

pub each_clear : (each : ℕ → List Look) (a m : ℕ) → ((j : ℕ) → a ≤ j → j < a + m → first_found (each j) ≡ None) → first_found (flat_map each (range_with_len a m)) ≡ None
each_clear each a zero clear = refl
each_clear each a (suc m) clear =
    none_then (each a) (flat_map each (range_with_len (a + 1) m)) (clear a (omega arith) (omega arith))
    ∙ each_clear each (a + 1) m (λ j low high. clear j (omega arith) (omega arith))

pub clear : (bytes : List ℕ) → Faultless bytes → fault_of bytes ≡ None
unfolding fault_of
clear bytes p =
    let each = line_looks bytes (field bytes 0 8) in
    let lines = flat_map each (range_with_len 0 (field bytes 8 11)) in
    let last = p.closing in
    none_then (head_looks bytes) (lines ++ closing_looks bytes (line_start (field bytes 8 11))) (head_clear bytes p.headed)
    ∙ none_then lines (closing_looks bytes (line_start (field bytes 8 11))) (each_clear each 0 (field bytes 8 11) (λ j low high. line_clear bytes (field bytes 0 8) j (p.passing j (omega arith))))
    ∙ grind (arith, nat_tests)
