-- What stands in a buffer that is being written, and what the writer answers. Assumes nothing.
use Rattle.std.specs.Prelude.{◌≡◌, ℕ, ◌+◌, ◌*◌, List, ◌++◌, length, take, drop, None, Option, nat_lt}
use Rattle.tape.specs.Refusals.{Notice, plain, cause}
use Rattle.tape.specs.Tapes.{Tape}
use Rattle.packed.specs.declared.cursors.Cursor.{Cursor}
use Rattle.packed.specs.Bits.{bits, spread}
use Rattle.packed.specs.Formats.{Packed, file_length}

-- the bits so far: those of the whole bytes, then those that the cursor holds
abbrev pub written : List ℕ → Cursor → List ℕ
written buf p = spread (take p.at buf) ++ bits p.held p.word

-- from one buffer and cursor to another, the bits bs are written, and no byte past the cursor is changed
pub record Puts (before : List ℕ) (p : Cursor) (after : List ℕ) (q : Cursor) (bs : List ℕ) : Type 0 where
  pub put : written after q ≡ written before p ++ bs
  pub count : 8 * q.at + q.held ≡ 8 * p.at + p.held + length bs
  pub rest : drop q.at after ≡ drop q.at before

-- a buffer of `room` bytes is too short
abbrev pub refuse_save : Tape → ℕ → Option Notice
refuse_save t room = cause (nat_lt room (file_length (length t.lines))) (plain 2) None

-- the front of the buffer is the packed file of t, whose length is answered, and the rest stays
pub record Saved (t : Tape) (before after : List ℕ) (size : ℕ) : Type 0 where
  pub long : size ≡ file_length (length t.lines)
  pub file : Packed t (take size after)
  pub rest : drop size after ≡ drop size before
