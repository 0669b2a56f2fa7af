-- A file without a fault is the packed file of the tape that its fields write. Assumes nothing.
use Rattle.std.proofs.Common.{◌≡◌, ℕ, zero, suc, ◌+◌, ◌-◌, ◌*◌, ◌/◌, ◌%◌, ◌^◌, ◌<◌, ◌≤◌, leb, List, [], ◌∷◌, ◌++◌, map, length, take, drop, replicate, ℤ, pos, negsuc, ◌≤ℤ◌, sym, refl, ap, ◌∙◌, subst, ap₂, arith, length-append, length-drop, take-append-drop, w32, SFits, to_z}
use lib.ListN.{length-replicate}
use mir.Facts.{Fits-of_lt, sfits_to_z, of_z-to_z}
use Rattle.std.specs.List.{flat_map, range_with_len}
use Rattle.std.proofs.Math.Nat.{add-zero, div-one}
use Rattle.std.proofs.Math.Seq.{take-add}
use Rattle.std.proofs.lemmas.List.{drop-drop, take_all}
use Rattle.std.proofs.lemmas.List.FromFn.{length-map-range_with_len, get_or-map-range_with_len}
use Rattle.std.proofs.ByRecursion.{All-drop}
use Rattle.std.proofs.lemmas.Int.{ints}
use Rattle.std.proofs.lemmas.Bool.{or_from, lt-leb}
use Rattle.tape.specs.declared.lines.Line.{Line}
use Rattle.tape.specs.declared.lines.Line.TheVariants.{Constant, Add, Subtract, Multiply, Opposite}
use Rattle.tape.specs.Lines.{Below}
use Rattle.tape.specs.Tapes.{Tape, Valid, ConstantFits, ReadsBelow, ConstantsFit, line, nth}
use Rattle.packed.specs.Bits.{bits, number, spread, field}
use Rattle.packed.specs.Formats.{line_bits, tape_bits, Bytes, Packed, line_of, line_start, file_length, line_at, lines_in, tape_of}
use Rattle.packed.proofs.Numbers.{length_bits, number_zeros, zeros_all, same_bits}
use Rattle.packed.proofs.FieldLaws.{length_spread, spread_all, field_bits, field_lt, field_inside}
use Rattle.packed.proofs.Looking.{Passing, Faultless}

-- ---- constants

in_range : (z : ℤ) → SFits w32 z → (negsuc 2147483647 ≤ℤ z) × (z ≤ℤ pos 2147483647)
in_range z f = (grind (arith, ints), grind (arith, ints))

pub from_range : (z : ℤ) → (negsuc 2147483647 ≤ℤ z) × (z ≤ℤ pos 2147483647) → SFits w32 z
from_range (pos n) (p, q) = record { sfits = omega (arith, ints, q) }
from_range (negsuc n) (p, q) = record { sfits = omega (arith, ints, p) }

-- ---- lengths

pub length_line_bits : (l : Line) → length (line_bits l) ≡ 35
length_line_bits (Constant c) = simp (length-append, length_bits)
length_line_bits (Add a b) = simp (length-append, length_bits)
length_line_bits (Subtract a b) = simp (length-append, length_bits)
length_line_bits (Multiply a b) = simp (length-append, length_bits)
length_line_bits (Opposite a) = simp (length-append, length_bits)

pub length_lines_bits : (ls : List Line) → length (flat_map line_bits ls) ≡ 35 * length ls
length_lines_bits [] = refl
length_lines_bits (l ∷ ls) = length-append (line_bits l) (flat_map line_bits ls) ∙ (rw (length_line_bits l, length_lines_bits ls) (omega arith))

pub length_tape_bits : (t : Tape) → length (tape_bits t) ≡ line_start (length t.lines)
length_tape_bits t = simp (length-append, length_bits, length_lines_bits) (omega arith)

-- ---- the lines of a file

pub length_lines_in : (bytes : List ℕ) (m : ℕ) → length (lines_in bytes m) ≡ m
length_lines_in bytes m = length-map-range_with_len (λ (j : ℕ). line_at bytes (line_start j)) 0 m

pub nth_line_in : (bytes : List ℕ) (m j : ℕ) → j < m → nth (lines_in bytes m) j ≡ line_at bytes (line_start j)
nth_line_in bytes m j h = get_or-map-range_with_len (λ (j : ℕ). line_at bytes (line_start j)) 0 m j j (Constant (pos 0)) h (omega arith)

-- ---- a line out of its 35 bits, by shifts and masks

pub line_split : (bytes : List ℕ) (at w : ℕ) → at + 35 ≤ 8 * length bytes → w ≡ field bytes at 35
    → line_of (w / 4294967296 % 8) (w % 4294967296) (w / 65536 % 65536) (w % 65536) ≡ line_at bytes at
line_split bytes at w within is =
    let kind : w / 4294967296 % 8 ≡ field bytes at 3
    = ap (λ x. x / 4294967296 % 8) is ∙ field_inside bytes at 0 3 32 (omega arith) ∙ ap (λ k. field bytes k 3) (add-zero at) in
    let whole : w % 4294967296 ≡ field bytes (at + 3) 32 = ap (λ x. x % 4294967296) (is ∙ sym (div-one _)) ∙ field_inside bytes at 3 32 0 (omega arith) in
    let first : w / 65536 % 65536 ≡ field bytes (at + 3) 16 = ap (λ x. x / 65536 % 65536) is ∙ field_inside bytes at 3 16 16 (omega arith) in
    let second : w % 65536 ≡ field bytes (at + 19) 16 = ap (λ x. x % 65536) (is ∙ sym (div-one _)) ∙ field_inside bytes at 19 16 0 (omega arith) in
    rw (kind, whole, first, second) (refl)

-- ---- a line that passes

-- a line reads only registers below its own, and its constant has 32 bits
abbrev pub Sound : ℕ → Line → Type 0
Sound own l = Below own l × ConstantFits l

-- a line of two registers
two_sound : (own kind first second : ℕ) → Passing own kind first second → 0 < kind → kind < 4 → Sound own (Add first second)
two_sound own kind first second p some few =
    (or_from (leb own first) (leb own second) (lt-leb own first (p.below some)) (lt-leb own second (p.both some few)), (omega arith, omega arith))

sound_of : (own kind whole first second : ℕ) → Passing own kind first second → whole < 2 ^ 32 → Sound own (line_of kind whole first second)
sound_of own zero whole first second p small = (refl, in_range (to_z w32 whole) (sfits_to_z (Fits-of_lt small)))
sound_of own (suc zero) whole first second p small = two_sound own 1 first second p (omega arith) (omega arith)
sound_of own (suc (suc zero)) whole first second p small = two_sound own 2 first second p (omega arith) (omega arith)
sound_of own (suc (suc (suc zero))) whole first second p small = two_sound own 3 first second p (omega arith) (omega arith)
sound_of own (suc (suc (suc (suc k)))) whole first second p small = (lt-leb own first (p.below (omega arith)), (omega arith, omega arith))

bits_of : (own kind whole first second : ℕ) → Passing own kind first second → whole < 2 ^ 32 → bits 32 whole ≡ bits 16 first ++ bits 16 second
    → line_bits (line_of kind whole first second) ≡ bits 3 kind ++ (bits 16 first ++ bits 16 second)
bits_of own zero whole first second p small halves = ap (λ bs. bits 3 0 ++ bs) (ap (bits 32) (of_z-to_z {w = w32} (Fits-of_lt small)) ∙ halves)
bits_of own (suc zero) whole first second p small halves = refl
bits_of own (suc (suc zero)) whole first second p small halves = refl
bits_of own (suc (suc (suc zero))) whole first second p small halves = refl
bits_of own (suc (suc (suc (suc zero)))) whole first second p small halves = ap (λ s. bits 3 4 ++ (bits 16 first ++ bits 16 s)) (sym (p.spare refl))
bits_of own (suc (suc (suc (suc (suc k))))) whole first second p small halves = absurd (omega (arith, p.kinds))

-- the line in the 35 bits from `at` on
module _ (bytes : List ℕ) (own at : ℕ) (within : at + 35 ≤ 8 * length bytes)
    (p : Passing own (field bytes at 3) (field bytes (at + 3) 16) (field bytes (at + 19) 16)) where
  line_sound : Sound own (line_at bytes at)
  line_sound = sound_of own (field bytes at 3) (field bytes (at + 3) 32) (field bytes (at + 3) 16) (field bytes (at + 19) 16) p (field_lt bytes (at + 3) 32 (omega arith))

  part : ℕ → ℕ → List ℕ
  part from width = take width (drop from (spread bytes))

  two_parts : (from m n : ℕ) → part from (m + n) ≡ part from m ++ part (from + m) n
  unfolding part
  two_parts from m n = take-add m n (drop from (spread bytes)) ∙ ap (λ bs. take m (drop from (spread bytes)) ++ take n bs) (drop-drop m from (spread bytes))

  line_written : line_bits (line_at bytes at) ≡ take 35 (drop at (spread bytes))
  unfolding part
  line_written =
      let second : at + 3 + 16 ≡ at + 19 = omega arith in
      let kind_is = field_bits bytes at 3 (omega arith) in
      let whole_is = field_bits bytes (at + 3) 32 (omega arith) in
      let first_is = field_bits bytes (at + 3) 16 (omega arith) in
      let second_is = field_bits bytes (at + 19) 16 (omega arith) in
      let halves : part (at + 3) 32 ≡ part (at + 3) 16 ++ part (at + 19) 16
      = two_parts (at + 3) 16 16 ∙ ap (λ k. part (at + 3) 16 ++ part k 16) second in
      let registers : bits 16 (field bytes (at + 3) 16) ++ bits 16 (field bytes (at + 19) 16) ≡ part (at + 3) 32
      = ap₂ (λ f s. f ++ s) first_is second_is ∙ sym halves in
      bits_of own (field bytes at 3) (field bytes (at + 3) 32) (field bytes (at + 3) 16) (field bytes (at + 19) 16) p
      (field_lt bytes (at + 3) 32 (omega arith)) (whole_is ∙ sym registers)
      ∙ ap₂ (λ k r. k ++ r) kind_is registers
      ∙ sym (two_parts at 3 32)

-- ---- the lines, and the tape

module _ (bytes : List ℕ) (p : Faultless bytes) where
  starts : (j : ℕ) → j < field bytes 8 11 → line_start j + 35 ≤ 8 * length bytes
  starts j h = omega (arith, p.headed.exact)

  line_there : (j : ℕ) → j < length (tape_of bytes).lines → Sound (field bytes 0 8 + j) (line (tape_of bytes) j)
  line_there j h =
      let within : j < field bytes 8 11 = rw (length_lines_in bytes (field bytes 8 11)) at h in
      subst (Sound (field bytes 0 8 + j)) (sym (nth_line_in bytes (field bytes 8 11) j within))
      (line_sound bytes (field bytes 0 8 + j) (line_start j) (starts j within) (p.passing j within))

  pub valid_of : Valid (tape_of bytes)
  valid_of = record {
    some_control = p.headed.some;
    few_controls = p.headed.few;
    few_lines = rw (length_lines_in bytes (field bytes 8 11)) p.headed.lines;
    below = λ j h. (line_there j h).0;
    fit = λ j h. (line_there j h).1;
  }

  lines_written : (a m : ℕ) → a + m ≤ field bytes 8 11
      → flat_map line_bits (map (λ j. line_at bytes (line_start j)) (range_with_len a m)) ≡ take (35 * m) (drop (line_start a) (spread bytes))
  lines_written a zero h = refl
  lines_written a (suc m) h =
      let S = spread bytes in
      let within : a < field bytes 8 11 = omega arith in
      let here = line_written bytes (field bytes 0 8 + a) (line_start a) (starts a within) (p.passing a within) in
      let next : line_start a + 35 ≡ line_start (a + 1) = omega arith in
      let long : 35 + 35 * m ≡ 35 * suc m = omega arith in
      ap₂ (λ l r. l ++ r) here (lines_written (a + 1) m (omega arith))
      ∙ ap (λ bs. take 35 (drop (line_start a) S) ++ take (35 * m) bs) (ap (λ k. drop k S) (sym next) ∙ sym (drop-drop 35 (line_start a) S))
      ∙ sym (take-add 35 (35 * m) (drop (line_start a) S))
      ∙ ap (λ k. take k (drop (line_start a) S)) long

  -- the bits past the last line
  closing_zeros : drop (line_start (field bytes 8 11)) (spread bytes) ≡ replicate (8 * length bytes - line_start (field bytes 8 11)) 0
  unfolding field
  closing_zeros =
      let end = line_start (field bytes 8 11) in
      let k = 8 * length bytes - end in
      let rest = drop end (spread bytes) in
      let long : length rest ≡ k = simp (length-drop, length_spread) in
      same_bits rest (replicate k 0) (long ∙ sym (length-replicate k 0)) (All-drop (λ b. b < 2) end (spread bytes) (spread_all bytes)) (zeros_all k)
      (ap number (sym (take_all k rest (omega (arith, long)))) ∙ p.closing ∙ sym (number_zeros k))

  size_of : length (tape_bits (tape_of bytes)) ≡ line_start (field bytes 8 11)
  size_of = length_tape_bits (tape_of bytes) ∙ ap line_start (length_lines_in bytes (field bytes 8 11))

  -- the head, and then the lines
  tape_written : tape_bits (tape_of bytes) ≡ take (line_start (field bytes 8 11)) (spread bytes)
  tape_written =
      let S = spread bytes in
      let m = field bytes 8 11 in
      let three = p.headed.three in
      let whole : 8 + (11 + 35 * m) ≡ line_start m = omega arith in
      let head : bits 8 (field bytes 0 8) ≡ take 8 S = field_bits bytes 0 8 (omega arith) in
      let count : bits 11 (length (tape_of bytes).lines) ≡ take 11 (drop 8 S) = ap (bits 11) (length_lines_in bytes m) ∙ field_bits bytes 8 11 (omega arith) in
      let lines : flat_map line_bits (tape_of bytes).lines ≡ take (35 * m) (drop 11 (drop 8 S)) = lines_written 0 m (omega arith) ∙ ap (take (35 * m)) (sym (drop-drop 11 8 S)) in
      let rest : bits 11 (length (tape_of bytes).lines) ++ flat_map line_bits (tape_of bytes).lines ≡ take (11 + 35 * m) (drop 8 S)
      = ap₂ (λ c l. c ++ l) count lines ∙ sym (take-add 11 (35 * m) (drop 8 S)) in
      ap₂ (λ h r. h ++ r) head rest ∙ sym (take-add 8 (11 + 35 * m) S) ∙ ap (λ k. take k S) whole

  pub packed_of : Bytes bytes → Packed (tape_of bytes) bytes
  packed_of fit =
      let end = line_start (field bytes 8 11) in
      let exact = p.headed.exact in
      let zeros : replicate (8 * length bytes - length (tape_bits (tape_of bytes))) 0 ≡ drop end (spread bytes)
      = ap (λ k. replicate (8 * length bytes - k) 0) size_of ∙ sym closing_zeros in (
        fit,
        rw size_of (omega arith),
        sym (ap₂ (λ f z. f ++ z) tape_written zeros ∙ take-append-drop end (spread bytes)),
      )

  -- what a view holds beside the bytes
  pub held : (n m : ℕ) → n ≡ field bytes 0 8 → m ≡ field bytes 8 11
      → (1 ≤ n) × (n ≤ 128) × (m ≤ 1024) × (length (lines_in bytes m) ≡ m) × ((j : ℕ) → j < m → line_start j + 35 ≤ 8 * length bytes) × ReadsBelow n (lines_in bytes m) × ConstantsFit (lines_in bytes m)
  held n m is_n is_m =
      let head = p.headed in (
        rw is_n head.some,
        rw is_n head.few,
        rw is_m head.lines,
        length_lines_in bytes m,
        λ j h. omega (arith, head.exact),
        subst (λ k. ReadsBelow k (lines_in bytes m)) (sym is_n) (subst (λ k. ReadsBelow (field bytes 0 8) (lines_in bytes k)) (sym is_m) valid_of.below),
        subst (λ k. ConstantsFit (lines_in bytes k)) (sym is_m) valid_of.fit,
      )

-- ---- how long a packed file is

pub packed_room : (t : Tape) (bytes : List ℕ) → Packed t bytes → line_start (length t.lines) ≤ 8 * length bytes
packed_room t bytes p =
    let k = 8 * length bytes - length (tape_bits t) in
    let e = sym (length_spread bytes) ∙ ap length p.2 ∙ length-append (tape_bits t) (replicate k 0) in
    omega (arith, e, length_tape_bits t)

pub packed_length : (t : Tape) (bytes : List ℕ) → Packed t bytes → length bytes ≡ file_length (length t.lines)
packed_length t bytes p = let r = packed_room t bytes p in omega (arith, p.1, length_tape_bits t)
