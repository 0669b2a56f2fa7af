use Rattle.std.proofs.Common.{◌≡◌, ◌+◌, ◌-◌, map, length, take, set, replicate, sum_by, sym, ap, ◌∙◌, ap₂, subst₂, zero-add, arith, length-set}
use Rattle.std.proofs.lemmas.List.{length-map, map-set}
use Rattle.tape.specs.Derivatives.{line_derivative}
use Rattle.tape.specs.Rows.{at, unit}
use Rattle.tape.specs.Tapes.{line, registers}
use Rattle.tape.specs.Values.{backward_cost}
use Rattle.tape.proofs.Reading.{read}
use Rattle.sweep.specs.Reverse.{Gains}
use Rattle.sweep.proofs.Adjoints.{walk_none, walk_more, walk_all}
use Rattle.sweep.proofs.Counting.{count_more, count_small}
use Rattle.sweep.proofs.walking.walk.Goals as goal

pub loop-i-init : goal.loop-i-init
loop-i-init g c =
    let o = g.K.Kind.ops in
    let m = g.K.Kind.means in
    let t = g.S.Sheet.tape c.args.sheet.now in
    let r = c.args.r in
    let first : map m (set c.clear.new.row r c.one.result) ≡ unit o (registers t) r =
    map-set m c.clear.new.row r _
    ∙ ap₂ (λ row x. set row r x) (c.clear.ensures ∙ ap (λ n. replicate n o.zero) c.requires.full) c.one.ensures in
    (zero-add _, rw first (walk_none g.K.Kind.laws (map m c.args.values.now) t r c.requires.known))

-- the line of one turn
line_is : (g : _) (c : goal.After-adjoint-in-loop-i-1 g) →
    let t = g.S.Sheet.tape c.args.sheet.now in c.line_of-line.result ≡ line t (c.loop-i.i - 1 - t.controls)
line_is g c = c.line_of-line.ensures ∙ ap (λ n. line (g.S.Sheet.tape c.args.sheet.now) (c.loop-i.i - 1 - n)) c.controls-n.ensures

-- its operations
counted : (g : _) (c : goal.After-adjoint-in-loop-i-1 g) →
    let t = g.S.Sheet.tape c.args.sheet.now in
    sum_by backward_cost (take (c.loop-i.i - t.controls) t.lines)
    ≡ sum_by backward_cost (take (c.loop-i.i - 1 - t.controls) t.lines) + c.give_back-count.result
counted g c =
    let t = g.S.Sheet.tape c.args.sheet.now in
    let i = c.loop-i.i in
    let cost : backward_cost (line t (i - 1 - t.controls)) ≡ c.give_back-count.result =
    sym (c.give_back-count.ensures.cost ∙ ap backward_cost (line_is g c)) in
    count_more t i (omega arith) (omega arith) ∙ ap (λ k. sum_by backward_cost (take (i - 1 - t.controls) t.lines) + k) cost

pub overflow_add-count : goal.overflow_add-count
overflow_add-count g c =
    let t = g.S.Sheet.tape c.args.sheet.now in
    omega (arith, counted g c, c.loop-i.invariant.0, count_small t (g.S.Sheet.keeps c.args.sheet.now) c.args.r)

pub loop-i-preserved : goal.loop-i-preserved
loop-i-preserved g c =
    let o = g.K.Kind.ops in
    let m = g.K.Kind.means in
    let t = g.S.Sheet.tape c.args.sheet.now in
    let vs = map m c.args.values.now in
    let i = c.loop-i.i in
    let old = c.loop-i.adjoint in
    let new = c.give_back-count.new.adjoint in
    let long : length old ≡ registers t = c.loop-i.auto.adjoint ∙ length-set _ _ _ ∙ c.clear.auto.row ∙ c.requires.full in
    let q_is : m c.index-adjoint-i.result ≡ at o (map m old) (i - 1) =
    read m old (i - 1) _ o.zero (omega arith) c.index-adjoint-i.is in
    let gains : Gains o (map m old) (map m new) (λ row. o.times (at o (map m old) (i - 1)) (line_derivative o vs (line t (i - 1 - t.controls)) row)) =
    subst₂ (λ x l. Gains o (map m old) (map m new) (λ row. o.times x (line_derivative o vs l row))) q_is (line_is g c) c.give_back-count.ensures.gains in (
      omega (arith, counted g c, c.loop-i.invariant.0),
      walk_more g.K.Kind.laws vs t (g.S.Sheet.keeps c.args.sheet.now) _ i (map m old) (map m new)
          (omega arith) (omega arith) (simp length-map long) gains c.loop-i.invariant.1,
    )

pub returns-clause-transposes : goal.returns-clause-transposes
returns-clause-transposes g c =
    let m = g.K.Kind.means in
    walk_all g.K.Kind.laws (map m c.args.values.now) (g.S.Sheet.tape c.args.sheet.now) _ c.loop-i.i (map m c.loop-i.adjoint) (omega arith) c.loop-i.invariant.1
