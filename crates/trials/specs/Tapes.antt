-- Small tapes, and what is said of their registers in numerals. Assumes nothing.
use Rattle.std.specs.Prelude.{◌≡◌, ℕ, List, [], ◌∷◌, map, pos}
use Rattle.kind.specs.declared.wrapping.Ticks.{Ticks}
use Rattle.kind.specs.Kinds.{Operations}
use Rattle.tape.specs.declared.lines.Line.TheVariants.{Add, Multiply, Subtract}
use Rattle.tape.specs.Derivatives.{derivatives}
use Rattle.tape.specs.Rows.{at}
use Rattle.tape.specs.Tapes.{Tape}
use Rattle.tape.specs.Values.{values}
use Rattle.sweep.specs.Queries.{IsBend, IsGradient}

-- `multiply 0 0`, `subtract 0 0` and `add 0 0` over one control

abbrev pub square : Tape
square = record { controls = 1; lines = Multiply 0 0 ∷ [] }

abbrev pub less_itself : Tape
less_itself = record { controls = 1; lines = Subtract 0 0 ∷ [] }

abbrev pub double : Tape
double = record { controls = 1; lines = Add 0 0 ∷ [] }

abbrev pub ticks : ℕ → Ticks
ticks n = record { 0 = pos n }

module _ {M : Type 0} (o : Operations M) where
  abbrev pub numbers : List ℕ → List M
  numbers ns = map (λ n. o.image (pos n)) ns

  -- register r at these controls, its gradient, its slope along a direction and its bend

  abbrev pub IsWorth : Tape → (controls : List ℕ) → (r n : ℕ) → Type 0
  IsWorth t controls r n = at o (values o (numbers controls) t.lines) r ≡ o.image (pos n)

  abbrev pub HasGradient : Tape → (controls : List ℕ) → (r : ℕ) → List ℕ → Type 0
  HasGradient t controls r g = IsGradient o t (numbers controls) r (numbers g)

  abbrev pub HasSlope : Tape → (controls direction : List ℕ) → (r n : ℕ) → Type 0
  HasSlope t controls direction r n = at o (derivatives o (values o (numbers controls) t.lines) (numbers direction) t.lines) r ≡ o.image (pos n)

  abbrev pub HasBend : Tape → (controls direction : List ℕ) → (r : ℕ) → List ℕ → Type 0
  HasBend t controls direction r b = IsBend o t (numbers controls) (numbers direction) r (numbers b)
