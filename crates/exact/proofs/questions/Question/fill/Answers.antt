use Rattle.std.proofs.Common.{◌≡◌, ℕ, ◌+◌, ◌<◌, ◌≤◌, List, map, length, get_or, take, ℤ, pos, sym, ap, ◌∙◌, arith, length-take, w64, SFits, to_z, of_z, rules}
use Rattle.std.proofs.lemmas.List.{get_or-map, get_or-take, length-map, map-set, take_all}
use Rattle.std.proofs.lemmas.Int.{to_z-of_z}
use Rattle.kind.specs.declared.wrapping.Ticks.{Ticks}
use Rattle.kind.specs.Dual.{dual, dual_operations}
use Rattle.sweep.specs.Forward.{paired}
use Rattle.sweep.proofs.Pairing.{paired_given, paired_read}
use Rattle.tape.proofs.Growing.{copy_more}
use Rattle.exact.specs.Wholes.{images, question, signed}
use Rattle.exact.proofs.Bounding.{signed_length}
use Rattle.exact.proofs.Showing.{evaluated}
use Rattle.exact.proofs.questions.Question.fill.Goals as goal

-- the image of an entry
read_image : {M : Type 0} (f : ℤ → M) (n : ℕ) (xs : List Ticks) (i : ℕ) (x : M) → i < n → n ≤ length xs → SFits w64 (get_or xs i (record { 0 = pos 0 })).0
    → x ≡ f (to_z w64 (of_z w64 (get_or xs i (record { 0 = pos 0 })).0)) → x ≡ get_or (map f (signed n xs)) i x
read_image f n xs i x within long fits is =
    let tick = λ (t : Ticks). t.0 in
    let zero : Ticks = record { 0 = pos 0 } in
    let part : i < length (take n xs) = simp length-take (omega arith) in
    let in_map : i < length (signed n xs) = simp length-map part in
    is ∙ ap f (to_z-of_z w64 _ fits)
    ∙ sym (get_or-map f (signed n xs) i (pos 0) x in_map ∙ ap f (get_or-map tick (take n xs) i zero (pos 0) part ∙ ap tick (get_or-take n xs i zero within)))

images_length : {M : Type 0} (f : ℤ → M) (n : ℕ) (xs : List Ticks) → n ≤ length xs → length (map f (signed n xs)) ≡ n
images_length f n xs long = length-map (signed n xs) f ∙ signed_length n xs long

pub loop-i-preserved : goal.loop-i-preserved
loop-i-preserved g c =
    let k = g.K.Kind in
    let t = g.S.Sheet.tape c.args.self.now.sheet.now in
    let n = t.controls in
    let items = c.loop-i.pair-items in
    let i = c.loop-i.i in
    let size = length-take c.controls-n.result c.args.row.now in
    let within : i < n = omega arith in
    let in_items : i < length (map (dual k.means) items) = simp length-map (omega arith) in
    let cs = map k.ops.image (signed n c.args.self.now.controls.now) in
    let ds = map k.ops.image (signed n c.args.self.now.direction.now) in
    let cs_is : length cs ≡ n = images_length k.ops.image n _ c.requires.given in
    let ds_is : length ds ≡ n = images_length k.ops.image n _ c.requires.directed in
    let in_pairs : i < length (paired cs ds) = rw (paired_given cs ds cs_is ds_is) within in
    let is = paired_read cs ds i _ _ _ (omega arith) (omega arith)
    (read_image k.ops.image n c.args.self.now.controls.now i _ within c.requires.given (search rules) c.image.ensures)
    (read_image k.ops.image n c.args.self.now.direction.now i _ within c.requires.directed (search rules) c.image-in-loop-i.ensures) in
    ap (take (i + 1)) (map-set (dual k.means) items i _) ∙ copy_more (map (dual k.means) items) (paired cs ds) i _ in_items in_pairs is c.loop-i.invariant

pub returns : goal.returns
returns g c =
    let k = g.K.Kind in
    let t = g.S.Sheet.tape c.args.self.now.sheet.now in
    let q = question t c.args.self.now.controls.now c.args.self.now.direction.now in
    let some = (g.S.Sheet.keeps c.args.self.now.sheet.now).some_control in
    let items = c.loop-i.pair-items in
    let size = length-take c.controls-n.result c.args.row.now in
    let long : length items ≡ t.controls = omega arith in
    let images_is : length (images q k.ops) ≡ t.controls =
    paired_given _ _ (images_length k.ops.image t.controls _ c.requires.given) (images_length k.ops.image t.controls _ c.requires.directed) in
    let all : length (map (dual k.means) items) ≤ c.loop-i.i = simp length-map (omega arith) in
    let loaded : map (dual k.means) items ≡ images q k.ops = sym (take_all c.loop-i.i _ all) ∙ c.loop-i.invariant ∙ take_all c.loop-i.i (images q k.ops) (omega arith) in
    evaluated (dual_operations k.ops) (dual k.means) t (images q k.ops) c.args.row.now items c.evaluate.new.row c.controls-n.result _ c.controls-n.ensures (omega arith) some images_is
    long (omega arith) loaded c.evaluate.auto.row c.evaluate.ensures.swept
