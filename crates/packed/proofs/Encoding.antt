-- What a write does to the bits so far. Assumes nothing.
use Rattle.std.proofs.Common.{◌≡◌, ℕ, ◌+◌, ◌-◌, ◌*◌, ◌/◌, ◌%◌, ◌^◌, ◌<◌, ◌≤◌, Bool, true, false, ltb, List, [], ◌∷◌, ◌++◌, length, get_or, take, drop, set, replicate, pos, None, Err, sym, refl, ap, ◌∙◌, subst, ap₂, arith, length-append, pow-add}
use lib.Arith.{digits_lt}
use lib.Bits.{bit_and, bit_or}
use Rattle.std.proofs.lemmas.Nat.{shr-shr, shl_whole, one_shl, or_shifted, and_mask}
use borrow.Rule.Slice.PartMut.{put_mid}
use Rattle.std.proofs.lemmas.Slice.{take-put_mid, drop-put_mid}
use Rattle.std.proofs.lemmas.List.{append_assoc, append-nil, take_more_set, drop-drop, length-take-le, take_more, flat_map_more}
use Rattle.std.proofs.ByRecursion.{All-take}
use Rattle.std.specs.List.{flat_map}
use Rattle.tape.specs.Tapes.{Tape, line}
use Rattle.packed.specs.Formats.{Packed, line_start, line_bits, tape_bits, file_length}
use Rattle.tape.specs.declared.lines.Line.{Line}
use Rattle.tape.specs.declared.lines.Line.TheVariants.{Constant}
use Rattle.packed.proofs.Decoding.{length_lines_bits}
use Rattle.std.proofs.lemmas.Bool.{ltb-true}
use Rattle.tape.specs.declared.refusals.Refusal.{Refusal}
use Rattle.tape.specs.Refusals.{Answered, notice, plain, cause}
use Rattle.packed.specs.Bits.{bits, spread}
use Rattle.packed.specs.Writing.{written, Puts, refuse_save}
use Rattle.packed.specs.declared.cursors.Cursor.{Cursor}
use Rattle.packed.proofs.Numbers.{bits_split, bits_join, bits_zero, length_bits}
use Rattle.packed.proofs.FieldLaws.{spread_append, byte_at, all_bytes}

-- ---- what `put_bits` does with a word

-- a value shifted in
pub shifted_in : (held word width value : ℕ) → word < 2 ^ held → value < 2 ^ width → held + width ≤ 64
    → bit_or (word * 2 ^ width % 2 ^ 64) value ≡ word * 2 ^ width + value
shifted_in held word width value small fits near =
    ap (λ n. bit_or n value) (shl_whole word held width 64 small near) ∙ or_shifted word width value fits

pub shifted_lt : (held word width value : ℕ) → word < 2 ^ held → value < 2 ^ width → word * 2 ^ width + value < 2 ^ (held + width)
shifted_lt held word width value small fits = rw pow-add (digits_lt small fits)

-- the low bits
pub masked : (held word : ℕ) → held < 64 → bit_and word (1 * 2 ^ held % 2 ^ 64 - 1) ≡ word % 2 ^ held
masked held word near = ap (λ m. bit_and word (m - 1)) (one_shl held 64 near) ∙ and_mask word held

-- one byte more, of a word whose `above` low bits are to come
pub byte_put : (bytes : List ℕ) (i above word : ℕ) → i < length bytes → spread (take i bytes) ≡ bits (8 * i) (word / 2 ^ (above + 8))
    → spread (take (i + 1) (set bytes i (word / 2 ^ above % 2 ^ 8))) ≡ bits (8 * i + 8) (word / 2 ^ above)
unfolding spread
byte_put bytes i above word within is =
    let high = word / 2 ^ above in
    let byte = high % 2 ^ 8 in
    ap spread (take_more_set bytes i byte within)
    ∙ spread_append (take i bytes) (byte ∷ [])
    ∙ ap₂ (λ f b. f ++ b) (is ∙ ap (bits (8 * i)) (sym (shr-shr word above 8))) (append-nil (bits 8 byte))
    ∙ sym (bits_split (8 * i) 8 high)

-- the whole bytes of a word into the buffer, and what is left of it to the cursor
pub puts_word : (buf new : List ℕ) (p q : Cursor) (k width value : ℕ) → value < 2 ^ width → p.at + k ≤ length buf → length new ≡ k
    → q.at ≡ p.at + k → 8 * k + q.held ≡ p.held + width
    → spread new ≡ bits (8 * k) ((p.word * 2 ^ width + value) / 2 ^ q.held) → q.word ≡ (p.word * 2 ^ width + value) % 2 ^ q.held
    → Puts buf p (put_mid p.at k buf new) q (bits width value)
puts_word buf new p q k width value small room long ends size whole left =
    let word = p.word * 2 ^ width + value in
    let front = spread (take p.at buf) in
    let bytes : spread (take q.at (put_mid p.at k buf new)) ≡ front ++ bits (8 * k) (word / 2 ^ q.held)
    = ap spread (take-put_mid p.at k buf new q.at (omega arith) (omega arith)) ∙ spread_append (take p.at buf) new ∙ ap (λ bs. front ++ bs) whole in
    record {
      put = ap₂ (λ f b. f ++ b) bytes (ap (bits q.held) left)
          ∙ append_assoc front (bits (8 * k) (word / 2 ^ q.held)) (bits q.held (word % 2 ^ q.held))
          ∙ ap (λ bs. front ++ bs) (sym (bits_split (8 * k) q.held word) ∙ ap (λ n. bits n word) size ∙ bits_join p.held width p.word value small)
          ∙ sym (append_assoc front (bits p.held p.word) (bits width value));
      count = omega (arith, length_bits width value);
      rest = drop-put_mid p.at k buf new q.at (omega arith) (omega arith) long;
    }

-- what is the same from m on is the same from a later place on
pub drop_further : (m n : ℕ) (xs ys : List ℕ) → m ≤ n → drop m xs ≡ drop m ys → drop n xs ≡ drop n ys
drop_further m n xs ys le same =
    let far : m + (n - m) ≡ n = omega arith in
    ap (λ k. drop k xs) (sym far) ∙ sym (drop-drop (n - m) m xs) ∙ ap (drop (n - m)) same ∙ drop-drop (n - m) m ys ∙ ap (λ k. drop k ys) far

-- ---- one write after another

pub puts_then : (a b c : List ℕ) (p q r : Cursor) (xs ys : List ℕ) → Puts a p b q xs → Puts b q c r ys → Puts a p c r (xs ++ ys)
puts_then a b c p q r xs ys f g = record {
  put = g.put ∙ ap (λ bs. bs ++ ys) f.put ∙ append_assoc (written a p) xs ys;
  count = omega (arith, f.count, g.count, length-append xs ys);
  rest = g.rest ∙ drop_further q.at r.at b a (omega (arith, f.count, g.count, q.few, r.few)) f.rest;
}

pub puts_as : (a b : List ℕ) (p q : Cursor) (xs ys : List ℕ) → xs ≡ ys → Puts a p b q xs → Puts a p b q ys
puts_as a b p q xs ys e f = subst (λ bs. Puts a p b q bs) e f

-- ---- a whole file

-- the head, the lines, and zeros to the end of the byte
pub puts_file : (t : Tape) (before after : List ℕ) (p q : Cursor) (k : ℕ) → p.at ≡ 0 → p.held ≡ 0 → q.held ≡ 0 → k < 8
    → q.at ≤ length after → ((i : ℕ) → get_or after i 0 < 256)
    → Puts before p after q (tape_bits t ++ bits k 0) → Packed t (take q.at after)
unfolding bits spread
puts_file t before after p q k starts empty ends few within fit f =
    let file = take q.at after in
    let long : length file ≡ q.at = length-take-le q.at after within in
    let count : 8 * q.at ≡ length (tape_bits t) + k
    = omega (arith, f.count, length-append (tape_bits t) (bits k 0), length_bits k 0) in
    let zeros : k ≡ 8 * length file - length (tape_bits t) = omega (arith, long, count) in
    let nothing : written before p ≡ []
    = ap₂ (λ a h. spread (take a before) ++ bits h p.word) starts empty in
    let all : spread file ≡ written after q
    = sym (append-nil (spread file)) ∙ ap (λ h. spread file ++ bits h q.word) (sym ends) in (
      λ i. byte_at file i (All-take (λ b. b < 256) q.at after (all_bytes after fit)),
      omega (arith, long, count),
      all ∙ f.put ∙ ap (λ bs. bs ++ (tape_bits t ++ bits k 0)) nothing ∙ ap (λ bs. tape_bits t ++ bs) (bits_zero k ∙ ap (λ n. replicate n 0) zeros),
    )

-- the bits of the first j lines
pub lines_count : (ls : List Line) (j : ℕ) → j ≤ length ls → length (flat_map line_bits (take j ls)) ≡ 35 * j
lines_count ls j within = length_lines_bits (take j ls) ∙ ap (λ k. 35 * k) (length-take-le j ls within)

-- the bits of one line more
pub lines_more : (t : Tape) (j : ℕ) (l : Line) → j < length t.lines → l ≡ line t j
    → flat_map line_bits (take j t.lines) ++ line_bits l ≡ flat_map line_bits (take (j + 1) t.lines)
lines_more t j l within is =
    ap (λ x. flat_map line_bits (take j t.lines) ++ line_bits x) is
    ∙ flat_map_more line_bits [] (take j t.lines) (line t j)
    ∙ ap (flat_map line_bits) (sym (take_more t.lines j (Constant (pos 0)) within))

-- the head and the lines before j end where line j starts
pub lines_end : (a b c d : List ℕ) (p q r s : Cursor) (n m j : ℕ) (lines : List Line) → p.at ≡ 0 → p.held ≡ 0 → j ≤ length lines
    → Puts a p b q (bits 8 n) → Puts b q c r (bits 11 m) → Puts c r d s (flat_map line_bits (take j lines)) → 8 * s.at + s.held ≡ line_start j
lines_end a b c d p q r s n m j lines starts empty within f g h =
    omega (arith, f.count, g.count, h.count, length_bits 8 n, length_bits 11 m, lines_count lines j within)

-- a save that is declined
pub too_short : (same : Type 0) (done : ℕ → Type 0) (t : Tape) (room : ℕ) (e : Refusal) → Answered (refuse_save t room) (Err e) same done
    → (room < file_length (length t.lines)) × (notice e ≡ plain 2) × same
too_short same done t room e h = go (ltb room (file_length (length t.lines))) refl h
  where
    go : (short : Bool) → ltb room (file_length (length t.lines)) ≡ short → Answered (cause short (plain 2) None) (Err e) same done
        → (room < file_length (length t.lines)) × (notice e ≡ plain 2) × same
    go true is h = (ltb-true room (file_length (length t.lines)) is, h.0, h.1)
    go false is h = absurd h
