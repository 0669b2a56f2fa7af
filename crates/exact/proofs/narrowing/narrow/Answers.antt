use Rattle.std.proofs.Common.{◌≡◌, pos, neg_ℤ, arith, w64, SFits, to_z, of_z, rules}
use Rattle.std.proofs.lemmas.Int.{clamps, ints, to_z-of_z}
use Rattle.std.specs.Int.{int_max, int_min}
use Rattle.exact.proofs.RangeLaws.{narrowed_above, narrowed_below, not_narrowed, other_side, same_side}
use Rattle.exact.proofs.narrowing.narrow.Goals as goal

pub returns-then-whole-eq0 : goal.returns-then-whole-eq0
returns-then-whole-eq0 c =
    let flat : c.args.whole.slope ≡ pos 0 = omega (arith, ints, c.if-whole-eq0.true) in
    not_narrowed _ _ c.args.whole.value _ c.requires.from c.requires.to c.requires.stay flat

pub returns-then-whole : goal.returns-then-whole
returns-then-whole c =
    let v = c.args.whole.value in
    let t = c.args.whole.slope in
    let value_fits : SFits w64 v = search rules in
    let slope_fits : SFits w64 t = search rules in
    let some : t ≡ pos 0 → ⊥ = λ e. omega (arith, ints, c.if-whole-eq0.false) in
    let sides = same_side v t some (simp to_z-of_z at c.if-whole.true) in
    let low_is : to_z w64 (of_z w64 c.max.result) ≡ int_max c.args.range.low (neg_ℤ (pos c.reach-far.result)) = omega (arith, ints, clamps, c.max.ensures.value) in
    let high_fits : SFits w64 c.args.range.high = search rules in
    rw (to_z-of_z w64 c.args.range.high high_fits)
    (narrowed_below _ _ v t c.requires.from c.requires.to c.requires.stay _ _ c.reach-far.ensures sides.0 sides.1 low_is)

pub returns-else-whole : goal.returns-else-whole
returns-else-whole c =
    let v = c.args.whole.value in
    let t = c.args.whole.slope in
    let value_fits : SFits w64 v = search rules in
    let slope_fits : SFits w64 t = search rules in
    let some : t ≡ pos 0 → ⊥ = λ e. omega (arith, ints, c.if-whole-eq0.false) in
    let sides = other_side v t some (simp to_z-of_z at c.if-whole.false) in
    let high_is : to_z w64 (of_z w64 c.min.result) ≡ int_min c.args.range.high (pos c.reach-far.result) = omega (arith, ints, clamps, c.min.ensures.value) in
    let low_fits : SFits w64 c.args.range.low = search rules in
    rw (to_z-of_z w64 c.args.range.low low_fits)
    (narrowed_above _ _ v t c.requires.from c.requires.to c.requires.stay _ _ c.reach-far.ensures sides.0 sides.1 high_is)
