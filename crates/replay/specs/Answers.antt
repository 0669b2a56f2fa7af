-- What the definitions answer to a query of a tape at a control row, and what a party's reply means. Assumes nothing.
use Rattle.std.specs.Prelude.{◌≡◌, ℕ, ◌*◌, ◌≤◌, Bool, false, List, map, length, Some, None, Ok, Err, Option, Result, nat_lt}
use Rattle.std.specs.List.{range_with_len}
use Rattle.export.specs.declared.faults.ExportFault.{ExportFault}
use Rattle.export.specs.declared.faults.ExportFault.TheVariants.{File, Query as QueryFault}
use Rattle.kind.specs.Kinds.{Operations}
use Rattle.kind.specs.Rows.{dot_product}
use Rattle.packed.specs.Faults.{Finding, finding}
use Rattle.sweep.specs.Forward.{given}
use Rattle.tape.specs.Derivatives.{derivatives, second_derivatives}
use Rattle.tape.specs.declared.refusals.Refusal.{Refusal}
use Rattle.tape.specs.Refusals.{Notice, notice, refuse_query}
use Rattle.tape.specs.Rows.{at, unit}
use Rattle.tape.specs.Tapes.{Tape}
use Rattle.tape.specs.Values.{backward_count, evaluation_count, values}
use Rattle.replay.specs.declared.queries.Query.{Query}
use Rattle.replay.specs.declared.queries.Query.TheVariants.{Value, Gradient, Slope, Bend}
use Rattle.replay.specs.declared.findings.Finding.{Finding as TheFinding}
use Rattle.replay.specs.declared.findings.Finding.TheVariants as found

pub data Answer (M : Type 0) : Type 0 where
  value : (x : M) → Answer M
  gradient : (x : M) (entries : List M) (operations : ℕ) → Answer M
  slope : (x : M) → Answer M
  bend : (entries : List M) → Answer M
  declined : Notice → Answer M
  broken : Finding → Answer M

abbrev pub unless_declined : {M : Type 0} → Option Notice → Answer M → Answer M
unless_declined (Some why) a = declined why
unless_declined None a = a

-- what a party's answer means

module _ {K M : Type 0} (means : K → M) where
  abbrev pub meant : TheFinding K → Answer M
  meant (found.Value x) = value (means x)
  meant (found.Gradient x entries operations) = gradient (means x) (map means entries.items) operations
  meant (found.Slope x) = slope (means x)
  meant (found.Bend entries) = bend (map means entries.items)

  abbrev pub said : Result (TheFinding K) Refusal → Answer M
  said (Ok a) = meant a
  said (Err e) = declined (notice e)

  -- the exporter may also be handed bytes that are no file
  abbrev pub exported : Result (TheFinding K) ExportFault → Answer M
  exported (Ok a) = meant a
  exported (Err (QueryFault e)) = declined (notice e)
  exported (Err (File e)) = broken (finding e)

module _ {M : Type 0} (o : Operations M) (t : Tape) (cs : List M) where
  abbrev pub value_of : (r : ℕ) → M
  value_of r = at o (values o cs t.lines) r

  abbrev pub derivative_of : (r : ℕ) (d : List M) → M
  derivative_of r d = at o (derivatives o (values o cs t.lines) d t.lines) r

  abbrev pub second_derivative_of : (r : ℕ) (d e : List M) → M
  second_derivative_of r d e = at o (second_derivatives o (values o cs t.lines) d e t.lines) r

  -- one entry for each control, along its unit direction
  abbrev pub gradient_of : (r : ℕ) → List M
  gradient_of r = map (λ i. derivative_of r (unit o t.controls i)) (range_with_len 0 t.controls)

  abbrev pub bend_of : (r : ℕ) (d : List M) → List M
  bend_of r d = map (λ i. second_derivative_of r d (unit o t.controls i)) (range_with_len 0 t.controls)

  module _ {K : Type 0} (means : K → M) where
    -- a direction that lacks a number for some control is too short
    abbrev pub short_direction : List K → Bool
    short_direction d = nat_lt (length d) t.controls

    -- what the definitions answer
    abbrev pub answer_of : Query K → Answer M
    answer_of (Value r) = unless_declined (refuse_query t false r) (value (value_of r))
    answer_of (Gradient r) = unless_declined (refuse_query t false r) (gradient (value_of r) (gradient_of r) (backward_count t r))
    answer_of (Slope r d) = unless_declined (refuse_query t (short_direction d.now) r) (slope (derivative_of r (given means t d.now)))
    answer_of (Bend r d) = unless_declined (refuse_query t (short_direction d.now) r) (bend (bend_of r (given means t d.now)))

    -- times any direction a gradient is the derivative along it, at no more than four times the evaluation's operations
    abbrev pub LawfulGradient : (r : ℕ) → Answer M → Type 0
    LawfulGradient r (value x) = Unit {0}
    LawfulGradient r (gradient x g operations) =
        ((d : List M) → length d ≡ t.controls → dot_product o g d ≡ derivative_of r d) × (operations ≤ 4 * evaluation_count t r)
    LawfulGradient r (slope x) = Unit {0}
    LawfulGradient r (bend b) = Unit {0}
    LawfulGradient r (declined why) = Unit {0}
    LawfulGradient r (broken what) = Unit {0}

    -- times any direction e a bend along d is the second derivative along d and e, whichever comes first
    abbrev pub LawfulBend : (r : ℕ) (d : List M) → Answer M → Type 0
    LawfulBend r d (value x) = Unit {0}
    LawfulBend r d (gradient x g operations) = Unit {0}
    LawfulBend r d (slope x) = Unit {0}
    LawfulBend r d (bend b) =
        (e : List M) → length e ≡ t.controls → (dot_product o b e ≡ second_derivative_of r d e) × (dot_product o b e ≡ second_derivative_of r e d)
    LawfulBend r d (declined why) = Unit {0}
    LawfulBend r d (broken what) = Unit {0}

    abbrev pub Lawful : Query K → Answer M → Type 0
    Lawful (Value r) a = Unit {0}
    Lawful (Gradient r) a = LawfulGradient r a
    Lawful (Slope r d) a = Unit {0}
    Lawful (Bend r d) a = LawfulBend r (given means t d.now) a

    -- the answer is what the definitions answer, and keeps the laws
    pub record Replied (q : Query K) (a : Answer M) : Type 0 where
      pub says : a ≡ answer_of q
      pub lawful : Lawful q a
