-- The refusal table: which call is declined, with which number, and what it names. Assumes nothing.
use Rattle.std.specs.Prelude.{◌≡◌, ℕ, Bool, cond, ◌||◌, length, Some, None, Ok, Err, Option, Result, ◌==◌, nat_le, nat_lt}
use Rattle.tape.specs.declared.lines.Line.{Line}
use Rattle.tape.specs.declared.lines.Line.TheVariants.{Constant, Add, Subtract, Multiply, Opposite}
use Rattle.tape.specs.declared.refusals.Refusal.{Refusal}
use Rattle.tape.specs.declared.refusals.Refusal.TheVariants.{Controls, Short, Full, Unknown, Empty, Unbounded}
use Rattle.tape.specs.Tapes.{Tape, registers}

-- What a host is told of a refusal: its number, and the register, control or line that it names, if it names one.
pub record Notice : Type 0 where
  pub number : ℕ
  pub named : Option ℕ

abbrev pub plain : ℕ → Notice
plain n = record { number = n; named = None }

abbrev pub naming : ℕ → ℕ → Notice
naming n k = record { number = n; named = Some k }

abbrev pub notice : Refusal → Notice
notice Controls = plain 1
notice Short = plain 2
notice Full = plain 3
notice (Unknown k) = naming 5 k
notice Empty = plain 6
notice (Unbounded k) = naming 10 k

-- A call that has a cause to be declined answers its notice and leaves all `same`; any other is `done`.
abbrev pub Answered : {R : Type 0} → Option Notice → Result R Refusal → Type 0 → (R → Type 0) → Type 0
Answered (Some why) (Ok v) same done = ⊥
Answered (Some why) (Err e) same done = (notice e ≡ why) × same
Answered None (Ok v) same done = done v
Answered None (Err e) same done = ⊥

-- where this cause does not hold, the next decides
abbrev pub cause : Bool → Notice → Option Notice → Option Notice
cause holds why next = cond holds (Some why) next

abbrev pub refuse_controls : ℕ → Option Notice
refuse_controls n = cause (nat_lt n 1 || nat_lt 128 n) (plain 1) None

-- a line at the register `own` may not read `a`
abbrev pub refuse_read : (own a : ℕ) → Option Notice → Option Notice
refuse_read own a next = cause (nat_le own a) (naming 5 a) next

abbrev pub refuse_reads : ℕ → Line → Option Notice
refuse_reads own (Constant c) = None
refuse_reads own (Add a b) = refuse_read own a (refuse_read own b None)
refuse_reads own (Subtract a b) = refuse_read own a (refuse_read own b None)
refuse_reads own (Multiply a b) = refuse_read own a (refuse_read own b None)
refuse_reads own (Opposite a) = refuse_read own a None

-- register r is asked for, and some row is too short or none is
abbrev pub refuse_query : Tape → (too_short : Bool) → (r : ℕ) → Option Notice
refuse_query t too_short r = cause (nat_le (registers t) r) (naming 5 r) (cause too_short (plain 2) None)

-- line j is asked for
abbrev pub refuse_line : Tape → ℕ → Option Notice
refuse_line t j = cause (nat_le (length t.lines) j) (naming 5 j) None

abbrev pub refuse_append : Tape → Line → Option Notice
refuse_append t l = cause (nat_le 1024 (length t.lines)) (plain 3) (refuse_reads (registers t) l)

-- a line is put at register k
abbrev pub refuse_replace : Tape → ℕ → Line → Option Notice
refuse_replace t k l = cause (nat_lt k t.controls || nat_le (registers t) k) (naming 5 k) (refuse_reads k l)

abbrev pub refuse_remove : Tape → Option Notice
refuse_remove t = cause (length t.lines == 0) (plain 6) None
