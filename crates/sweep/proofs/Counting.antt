-- Operation counts. Assumes nothing.
use Rattle.std.proofs.Common.{◌≡◌, ℕ, ◌+◌, ◌-◌, ◌*◌, ◌<◌, ◌≤◌, List, [], ◌∷◌, length, take, pos, sum_by, ap, ◌∙◌, arith, length-take}
use Rattle.std.proofs.lemmas.List.Sums.{sum_by-cons, sum_by_more}
use Rattle.tape.specs.declared.lines.Line.{Line}
use Rattle.tape.specs.declared.lines.Line.TheVariants.{Constant, Add, Subtract, Multiply, Opposite}
use Rattle.tape.specs.Tapes.{Tape, Valid, line, registers}
use Rattle.sweep.specs.Reverse.{Counted}
use Rattle.tape.specs.Values.{backward_cost, backward_count, evaluation_cost, lines_to}

line_costs : (l : Line) → (backward_cost l ≤ 4 * evaluation_cost l) × (backward_cost l ≤ 4)
line_costs (Constant c) = (omega arith, omega arith)
line_costs (Add a b) = (omega arith, omega arith)
line_costs (Subtract a b) = (omega arith, omega arith)
line_costs (Multiply a b) = (omega arith, omega arith)
line_costs (Opposite a) = (omega arith, omega arith)

costs : (ls : List Line) → (sum_by backward_cost ls ≤ 4 * sum_by evaluation_cost ls) × (sum_by backward_cost ls ≤ 4 * length ls)
costs [] = (omega arith, omega arith)
costs (l ∷ ls) =
    let rest = costs ls in
    let here = line_costs l in
    let back = sum_by-cons backward_cost l ls in
    let on = sum_by-cons evaluation_cost l ls in
    (omega arith, omega arith)

-- the backward walk takes at most four times the operations of the evaluation
pub counted : (t : Tape) (r operations : ℕ) → operations ≡ backward_count t r → Counted t r operations
counted t r operations count = record { count = count; cheap = omega (arith, count, (costs (lines_to t r)).0) }

pub count_small : (t : Tape) → Valid t → (r : ℕ) → backward_count t r ≤ 4096
count_small t valid r =
    let few : length (lines_to t r) ≤ 1024 = simp length-take (omega (arith, valid.few_lines)) in
    omega (arith, (costs (lines_to t r)).1)

-- one line more, from register i - 1
pub count_more : (t : Tape) (i : ℕ) → t.controls < i → i ≤ registers t
    → sum_by backward_cost (take (i - t.controls) t.lines) ≡ sum_by backward_cost (take (i - 1 - t.controls) t.lines) + backward_cost (line t (i - 1 - t.controls))
count_more t i above within =
    let next : i - t.controls ≡ (i - 1 - t.controls) + 1 = omega arith in
    ap (λ k. sum_by backward_cost (take k t.lines)) next ∙ sum_by_more backward_cost t.lines (i - 1 - t.controls) (Constant (pos 0)) (omega arith)
