use Rattle.std.proofs.Common.{◌≡◌, ◌+◌, ◌++◌, ◌<◌, ◌≤◌, map, length, take, drop, sym, ap, ◌∙◌, arith, length-append, length-drop, length-take}
use Rattle.std.proofs.lemmas.List.{length-map, map-set, take_all, take_at, take-map}
use Rattle.kind.specs.Dual.{dual}
use Rattle.sweep.specs.Forward.{paired}
use Rattle.tape.proofs.Growing.{copy_more, copy_all}
use Rattle.tape.proofs.Reading.{read}
use Rattle.sweep.proofs.Pairing.{paired_length, paired_read}
use Rattle.sweep.proofs.filling.load_pairs.Goals as goal

pub loop-i-preserved : goal.loop-i-preserved
loop-i-preserved g c =
    let m = g.K.Kind.means in
    let cs = map m c.args.controls.now in
    let ds = map m c.args.direction.now in
    let i = c.loop-i.i in
    let items = c.loop-i.pair-items in
    let same : length ds ≡ length cs = simp length-map c.requires in
    let size = length-take c.min-both.result c.args.row.now in
    let in_cs : i < length cs = simp length-map (omega arith) in
    let in_ds : i < length ds = simp length-map (omega arith) in
    let in_items : i < length (map (dual m) items) = simp length-map (omega arith) in
    let in_pairs : i < length (paired cs ds) = rw (paired_length cs ds same) in_cs in
    let is = paired_read cs ds i (m c.index-controls-i.result) (m c.index-direction-i.result) _ in_cs in_ds
    (read m _ i _ _ (omega arith) c.index-controls-i.is) (read m _ i _ _ (omega arith) c.index-direction-i.is) in
    ap (take (i + 1)) (map-set (dual m) items i _) ∙ copy_more (map (dual m) items) (paired cs ds) i _ in_items in_pairs is c.loop-i.invariant

pub returns : goal.returns
returns g c =
    let m = g.K.Kind.means in
    let row = c.args.row.now in
    let both = c.min-both.result in
    let i = c.loop-i.i in
    let items = c.loop-i.pair-items in
    let cs = map m c.args.controls.now in
    let ds = map m c.args.direction.now in
    let same : length ds ≡ length cs = simp length-map c.requires in
    let pairs_is : length (paired cs ds) ≡ length c.args.controls.now = paired_length cs ds same ∙ length-map c.args.controls.now m in
    let size = length-take both row in
    let long : length items ≡ both = omega arith in
    let after = map (dual m) (items ++ drop both row) in
    let after_is : length after ≡ length row = length-map (items ++ drop both row) (dual m) ∙ simp (length-append, length-drop) (omega arith) in
    let all : length (map (dual m) items) ≤ i = simp length-map (omega arith) in
    let begins : take both after ≡ take both (paired cs ds) =
    take-map (dual m) both (items ++ drop both row) ∙ ap (map (dual m)) (take_at items _ both long) ∙ sym (take_all i _ all) ∙ c.loop-i.invariant
    ∙ ap (λ k. take k (paired cs ds)) (omega arith) in
    ap (λ k. take k after) (sym pairs_is) ∙ copy_all after (paired cs ds) both (omega arith) begins ∙ ap (λ k. take k (paired cs ds)) after_is
