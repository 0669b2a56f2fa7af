-- Formal derivatives of a tape's registers. Assumes nothing.
use Rattle.std.specs.Prelude.{ℕ, List, length, take, replicate}
use Rattle.kind.specs.Kinds.{Operations}
use Rattle.tape.specs.declared.lines.Line.{Line}
use Rattle.tape.specs.declared.lines.Line.TheVariants.{Constant, Add, Subtract, Multiply, Opposite}
use Rattle.tape.specs.Rows.{at, grow}
use Rattle.tape.specs.Tapes.{Tape}

module _ {M : Type 0} (o : Operations M) where
  -- the differential of a line, where its registers are worth v and change by t
  abbrev pub differential : (v t : ℕ → M) → Line → M
  differential v t (Constant c) = o.zero
  differential v t (Add a b) = o.plus (t a) (t b)
  differential v t (Subtract a b) = o.plus (t a) (o.opposite (t b))
  differential v t (Multiply a b) = o.plus (o.times (v a) (t b)) (o.times (v b) (t a))
  differential v t (Opposite a) = o.opposite (t a)

  abbrev pub line_derivative : (vs : List M) → Line → List M → M
  line_derivative vs l row = differential (at o vs) (at o row) l

  -- the formal derivative of every register along the direction d: vs are the values
  abbrev pub derivatives : (vs d : List M) → List Line → List M
  derivatives vs d lines = grow (line_derivative vs) d lines

  -- the second differential, where they change by d, by e, and by s where both act
  abbrev pub second_differential : (v d e s : ℕ → M) → Line → M
  second_differential v d e s (Constant c) = o.zero
  second_differential v d e s (Add a b) = o.plus (s a) (s b)
  second_differential v d e s (Subtract a b) = o.plus (s a) (o.opposite (s b))
  second_differential v d e s (Multiply a b) =
      o.plus (o.plus (o.plus (o.times (v a) (s b)) (o.times (d a) (e b))) (o.times (e a) (d b))) (o.times (v b) (s a))
  second_differential v d e s (Opposite a) = o.opposite (s a)

  abbrev pub line_second : (vs ds es : List M) → Line → List M → M
  line_second vs ds es l row = second_differential (at o vs) (at o ds) (at o es) (at o row) l

  -- the second derivative of every register along d and e
  abbrev pub second_derivatives : (vs d e : List M) → List Line → List M
  second_derivatives vs d e lines = grow (line_second vs (derivatives vs d lines) (derivatives vs e lines)) (replicate (length d) o.zero) lines

  -- the tangents of all registers where each, a line's too, is moved by an entry of δ besides
  abbrev pub perturbed : (vs : List M) → Tape → (δ : List M) → List M
  perturbed vs t δ = grow (λ l row. o.plus (at o δ (length row)) (line_derivative vs l row)) (take t.controls δ) t.lines
