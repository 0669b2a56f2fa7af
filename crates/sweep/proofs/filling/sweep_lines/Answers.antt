use Rattle.std.proofs.Common.{◌≡◌, ◌-◌, map, length, take, sym, ap, ◌∙◌, ap₂, arith}
use Rattle.std.proofs.lemmas.List.{length-map, map-set, take-map}
use Rattle.tape.specs.Tapes.{line}
use Rattle.tape.specs.Values.{line_value}
use Rattle.sweep.proofs.Sweeping.{swept_none, swept_more, swept_all}
use Rattle.sweep.proofs.filling.sweep_lines.Goals as goal

pub loop-i-init : goal.loop-i-init
loop-i-init g c = rw c.controls-n.ensures (swept_none g.K.Kind.ops (g.S.Sheet.tape c.args.sheet.now) (map g.K.Kind.means c.args.row.now))

pub loop-i-preserved : goal.loop-i-preserved
loop-i-preserved g c =
    let o = g.K.Kind.ops in
    let m = g.K.Kind.means in
    let t = g.S.Sheet.tape c.args.sheet.now in
    let i = c.loop-i.i in
    let row = c.loop-i.row in
    let long : length (map m row) ≡ length (map m c.args.row.now) = simp length-map c.loop-i.auto.row in
    let x_is : m c.line_value.result ≡ line_value o (line t (i - t.controls)) (take i (map m row)) =
    c.line_value.ensures ∙ ap₂ (line_value o) (ap (λ n. line t (i - n)) c.controls-n.ensures) (sym (take-map m i row)) in
    rw map-set (swept_more o t (map m c.args.row.now) (map m row) i (m c.line_value.result) (simp length-map c.requires) long (omega arith)
    (simp length-map c.loop-i-test.true) c.loop-i.invariant x_is)

pub returns : goal.returns
returns g c =
    let m = g.K.Kind.means in
    swept_all g.K.Kind.ops (g.S.Sheet.tape c.args.sheet.now) (map m c.args.row.now) (map m c.loop-i.row) c.loop-i.i
    (simp length-map c.requires) (simp length-map c.loop-i.auto.row) (simp length-map c.loop-i-test.false) c.loop-i.invariant
