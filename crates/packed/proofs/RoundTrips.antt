-- A tape saved and read is that tape, and it has one file. Assumes nothing.
use Rattle.std.proofs.Common.{◌≡◌, ℕ, ◌+◌, ◌-◌, ◌*◌, ◌^◌, ◌<◌, ◌≤◌, leb, List, [], ◌++◌, length, take, drop, replicate, pos, None, sym, refl, ap, ◌∙◌, ap₂, arith, length-append, take-append-drop, to_z-of_z, w32, to_z, of_z}
use lib.ListN.{length-replicate}
use mir.Facts.{Fits-of_z, Fits-lt-pow}
use Rattle.std.specs.List.{flat_map}
use Rattle.std.proofs.lemmas.Bool.{or_parts, leb-false}
use Rattle.std.proofs.lemmas.Grind.{flat_map-append}
use Rattle.std.proofs.lemmas.List.{append_assoc, take_at, drop_at, take_all, drop_more, length-take-le, ext_get_or}
use Rattle.packed.specs.Bits.{bits, number, spread, field}
use Rattle.tape.specs.Lines.{Below}
use Rattle.tape.specs.Tapes.{Tape, line, Valid}
use Rattle.packed.specs.Formats.{line_bits, tape_bits, Packed, line_of, line_start, file_length, line_at, tape_of}
use Rattle.packed.specs.Looks.{fault_of}
use Rattle.tape.specs.declared.lines.Line.{Line}
use Rattle.tape.specs.declared.lines.Line.TheVariants.{Constant, Add, Subtract, Multiply, Opposite}
use Rattle.packed.proofs.Numbers.{length_bits, number_bits_is, number_zeros}
use Rattle.packed.proofs.FieldLaws.{same_bytes, all_bytes}
use Rattle.packed.proofs.Looking.{Passing, Faultless, clear}
use Rattle.packed.proofs.Decoding.{Sound, from_range, length_lines_bits, length_tape_bits, packed_length, packed_room, length_lines_in, nth_line_in}

-- ---- one file

pub one_file : (t : Tape) (xs ys : List ℕ) → Packed t xs → Packed t ys → xs ≡ ys
one_file t xs ys p q =
    let long : length xs ≡ length ys = packed_length t xs p ∙ sym (packed_length t ys q) in
    same_bytes xs ys (all_bytes xs p.0) (all_bytes ys q.0)
    (p.2 ∙ ap (λ k. tape_bits t ++ replicate (8 * k - length (tape_bits t)) 0) long ∙ sym q.2)

-- ---- a field whose bits are known

pub field_is : (bytes pre post : List ℕ) (at width n : ℕ) → spread bytes ≡ pre ++ (bits width n ++ post) → length pre ≡ at → n < 2 ^ width
    → field bytes at width ≡ n
unfolding field
field_is bytes pre post at width n is long small =
    ap (λ bs. number (take width (drop at bs))) is
    ∙ ap (λ bs. number (take width bs)) (drop_at pre (bits width n ++ post) at long)
    ∙ ap number (take_at (bits width n) post width (length_bits width n))
    ∙ number_bits_is width n small

-- a field after one more part
field_after : (bytes pre mid post : List ℕ) (at m width n : ℕ) → spread bytes ≡ pre ++ (mid ++ (bits width n ++ post)) → length pre ≡ at → length mid ≡ m → n < 2 ^ width
    → field bytes (at + m) width ≡ n
field_after bytes pre mid post at m width n is long more small =
    field_is bytes (pre ++ mid) post (at + m) width n (is ∙ sym (append_assoc pre mid (bits width n ++ post)))
    (length-append pre mid ∙ ap₂ (λ a b. a + b) long more) small

-- ---- a line whose bits are known

registers_below : (own a b : ℕ) → Below own (Add a b) → (a < own) × (b < own)
registers_below own a b h = let parts = or_parts (leb own a) (leb own b) h in (leb-false own a parts.0, leb-false own b parts.1)

module _ (bytes pre post : List ℕ) (at own : ℕ) (long : length pre ≡ at) (near : own ≤ 2 ^ 16) where
  abbrev Back : Line → Type 0
  Back l = (line_at bytes at ≡ l) × Passing own (field bytes at 3) (field bytes (at + 3) 16) (field bytes (at + 19) 16)

  -- two registers after the kind
  registers_back : (kind a b : ℕ) → kind < 8 → a < 2 ^ 16 → b < 2 ^ 16 → spread bytes ≡ pre ++ ((bits 3 kind ++ (bits 16 a ++ bits 16 b)) ++ post)
      → (field bytes at 3 ≡ kind) × (field bytes (at + 3) 16 ≡ a) × (field bytes (at + 19) 16 ≡ b)
  registers_back kind a b small fa fb is =
      let flat : (bits 3 kind ++ (bits 16 a ++ bits 16 b)) ++ post ≡ bits 3 kind ++ (bits 16 a ++ (bits 16 b ++ post))
      = append_assoc (bits 3 kind) (bits 16 a ++ bits 16 b) post ∙ ap (λ bs. bits 3 kind ++ bs) (append_assoc (bits 16 a) (bits 16 b) post) in
      let all : spread bytes ≡ pre ++ (bits 3 kind ++ (bits 16 a ++ (bits 16 b ++ post))) = is ∙ ap (λ bs. pre ++ bs) flat in
      let last : spread bytes ≡ pre ++ ((bits 3 kind ++ bits 16 a) ++ (bits 16 b ++ post))
      = all ∙ ap (λ bs. pre ++ bs) (sym (append_assoc (bits 3 kind) (bits 16 a) (bits 16 b ++ post))) in (
        field_is bytes pre (bits 16 a ++ (bits 16 b ++ post)) at 3 kind all long small,
        field_after bytes pre (bits 3 kind) (bits 16 b ++ post) at 3 16 a all long (length_bits 3 kind) fa,
        field_after bytes pre (bits 3 kind ++ bits 16 a) post at 19 16 b last long
            (length-append (bits 3 kind) (bits 16 a) ∙ ap₂ (λ m n. m + n) (length_bits 3 kind) (length_bits 16 a)) fb,
      )

  -- a line of two registers
  two_back : (kind a b : ℕ) (l : Line) → 0 < kind → kind < 4 → ((whole : ℕ) → line_of kind whole a b ≡ l) → Below own (Add a b)
      → spread bytes ≡ pre ++ ((bits 3 kind ++ (bits 16 a ++ bits 16 b)) ++ post) → Back l
  two_back kind a b l some few is_l below is =
      let low = registers_below own a b below in
      let pa = low.0 in
      let pb = low.1 in
      let got = registers_back kind a b (omega arith) (omega arith) (omega arith) is in
      let k = got.0 in
      let f = got.1 in
      let s = got.2 in (
        ap (λ n. line_of n (field bytes (at + 3) 32) (field bytes (at + 3) 16) (field bytes (at + 19) 16)) k
            ∙ ap₂ (line_of kind (field bytes (at + 3) 32)) f s ∙ is_l (field bytes (at + 3) 32),
        record { kinds = omega arith; below = λ h. omega arith; both = λ h h'. omega arith; spare = λ h. absurd (omega arith) },
      )

  pub line_back : (l : Line) → Sound own l → spread bytes ≡ pre ++ (line_bits l ++ post) → Back l
  line_back (Constant z) (below, range) is =
      let fit = from_range z range in
      let whole = of_z w32 z in
      let flat : spread bytes ≡ pre ++ (bits 3 0 ++ (bits 32 whole ++ post)) = is ∙ ap (λ bs. pre ++ bs) (append_assoc (bits 3 0) (bits 32 whole) post) in
      let k = field_is bytes pre (bits 32 whole ++ post) at 3 0 flat long (omega arith) in
      let w = field_after bytes pre (bits 3 0) post at 3 32 whole flat long (length_bits 3 0) (Fits-lt-pow (Fits-of_z fit)) in (
        ap (λ n. line_of n (field bytes (at + 3) 32) (field bytes (at + 3) 16) (field bytes (at + 19) 16)) k ∙ ap (λ n. Constant (to_z w32 n)) w ∙ ap Constant (to_z-of_z fit),
        record { kinds = omega arith; below = λ h. absurd (omega arith); both = λ h h'. absurd (omega arith); spare = λ h. absurd (omega arith) },
      )
  line_back (Add a b) (below, fit) is = two_back 1 a b (Add a b) (omega arith) (omega arith) (λ whole. refl) below is
  line_back (Subtract a b) (below, fit) is = two_back 2 a b (Subtract a b) (omega arith) (omega arith) (λ whole. refl) below is
  line_back (Multiply a b) (below, fit) is = two_back 3 a b (Multiply a b) (omega arith) (omega arith) (λ whole. refl) below is
  line_back (Opposite a) (below, fit) is =
      let pa = leb-false own a below in
      let got = registers_back 4 a 0 (omega arith) (omega arith) (omega arith) is in
      let k = got.0 in
      let f = got.1 in
      let s = got.2 in (
        ap (λ n. line_of n (field bytes (at + 3) 32) (field bytes (at + 3) 16) (field bytes (at + 19) 16)) k ∙ ap Opposite f,
        record { kinds = omega arith; below = λ h. omega arith; both = λ h h'. absurd (omega arith); spare = λ h. s },
      )

-- ---- a tape whose bits are known

module _ (t : Tape) (bytes : List ℕ) (kept : Valid t) (p : Packed t bytes) where
  zeros : List ℕ
  zeros = replicate (8 * length bytes - length (tape_bits t)) 0

  controls_back : field bytes 0 8 ≡ t.controls
  unfolding zeros
  controls_back =
      field_is bytes [] ((bits 11 (length t.lines) ++ flat_map line_bits t.lines) ++ zeros) 0 8 t.controls
      (p.2 ∙ append_assoc (bits 8 t.controls) (bits 11 (length t.lines) ++ flat_map line_bits t.lines) zeros) refl (omega (arith, kept.few_controls))

  count_back : field bytes 8 11 ≡ length t.lines
  unfolding zeros
  count_back =
      field_is bytes (bits 8 t.controls) (flat_map line_bits t.lines ++ zeros) 8 11 (length t.lines)
      (p.2 ∙ append_assoc (bits 8 t.controls) (bits 11 (length t.lines) ++ flat_map line_bits t.lines) zeros
      ∙ ap (λ bs. bits 8 t.controls ++ bs) (append_assoc (bits 11 (length t.lines)) (flat_map line_bits t.lines) zeros))
      (length_bits 8 t.controls) (omega (arith, kept.few_lines))

  -- what stands before line j
  before : ℕ → List ℕ
  before j = bits 8 t.controls ++ (bits 11 (length t.lines) ++ flat_map line_bits (take j t.lines))

  length_before : (j : ℕ) → j ≤ length t.lines → length (before j) ≡ line_start j
  unfolding before
  length_before j h = simp (length-append, length_bits, length_lines_bits, length-take-le) (omega arith)

  around : (j : ℕ) → j < length t.lines → spread bytes ≡ before j ++ (line_bits (line t j) ++ (flat_map line_bits (drop (j + 1) t.lines) ++ zeros))
  unfolding before zeros
  around j h =
      let front = flat_map line_bits (take j t.lines) in
      let line = line_bits (line t j) in
      let back = flat_map line_bits (drop (j + 1) t.lines) in
      let n = bits 8 t.controls in
      let m = bits 11 (length t.lines) in
      let parts : flat_map line_bits t.lines ≡ front ++ (line ++ back)
      = ap (flat_map line_bits) (sym (take-append-drop j t.lines)) ∙ flat_map-append line_bits (take j t.lines) (drop j t.lines)
      ∙ ap (λ ls. front ++ flat_map line_bits ls) (drop_more t.lines j (Constant (pos 0)) h) in
      p.2 ∙ ap (λ ls. (n ++ (m ++ ls)) ++ zeros) parts ∙ simp append_assoc

  sound_line : (j : ℕ) → j < length t.lines → Sound (t.controls + j) (line t j)
  sound_line j h = (kept.below j h, kept.fit j h)

  line_read : (j : ℕ) → j < length t.lines
      → (line_at bytes (line_start j) ≡ line t j)
      × Passing (t.controls + j) (field bytes (line_start j) 3) (field bytes (line_start j + 3) 16) (field bytes (line_start j + 19) 16)
  line_read j h =
      line_back bytes (before j) (flat_map line_bits (drop (j + 1) t.lines) ++ zeros) (line_start j) (t.controls + j) (length_before j (omega arith))
      (omega (arith, kept.few_controls, kept.few_lines)) (line t j) (sound_line j h) (around j h)

  pub reads_back : tape_of bytes ≡ t
  reads_back =
      let lines : (tape_of bytes).lines ≡ t.lines
      = ext_get_or (Constant (pos 0)) (tape_of bytes).lines t.lines (length_lines_in bytes (field bytes 8 11) ∙ count_back)
      (λ j h. let within : j < field bytes 8 11 = rw (length_lines_in bytes (field bytes 8 11)) at h in
      nth_line_in bytes (field bytes 8 11) j within ∙ (line_read j (rw count_back at within)).0) in
      ap₂ (λ n ls. record { controls = n; lines = ls }) controls_back lines

  closing_back : field bytes (line_start (length t.lines)) (8 * length bytes - line_start (length t.lines)) ≡ 0
  unfolding field
  closing_back =
      let end = line_start (length t.lines) in
      let k = 8 * length bytes - end in
      let long = length_tape_bits t in
      ap (λ bs. number (take k (drop end bs))) (p.2 ∙ ap (λ n. tape_bits t ++ replicate (8 * length bytes - n) 0) long)
      ∙ ap (λ bs. number (take k bs)) (drop_at (tape_bits t) (replicate k 0) end long)
      ∙ ap number (take_all k (replicate k 0) (omega (arith, length-replicate {A = ℕ} k 0)))
      ∙ number_zeros k

  pub faultless_file : Faultless bytes
  faultless_file =
      let room = packed_room t bytes p in
      record {
        headed = record {
          three = omega arith;
          some = rw controls_back kept.some_control;
          few = rw controls_back kept.few_controls;
          lines = rw count_back kept.few_lines;
          exact = packed_length t bytes p ∙ ap file_length (sym count_back);
        };
        passing = λ j h. rw controls_back (line_read j (rw count_back at h)).1;
        closing = ap (λ n. field bytes (line_start n) (8 * length bytes - line_start n)) count_back ∙ closing_back;
      }

  pub file_accepted : fault_of bytes ≡ None
  file_accepted = clear bytes faultless_file
