use Rattle.std.proofs.Common.{◌≡◌, ℕ, false, [], ◌∷◌, length, get_or, Some, None, sym, ap, ◌∙◌, arith, below_more}
use Rattle.std.proofs.lemmas.Result.{err_from_is_err_and}
use Rattle.tape.specs.Refusals.{notice}
use Rattle.tape.proofs.Answering.{accepted, not_declined, refused, why_declined}
use Rattle.exact.specs.Readings.{read_slope, read_value, sizes_at}
use Rattle.exact.specs.Refusals.{large, refuse_first}
use Rattle.exact.proofs.Finding.{first_none, not_refused, refused_at}
use Rattle.exact.proofs.RangeLaws.{range_all, range_more}
use Rattle.exact.proofs.readings.Readings.range_of.Goals as goal

pub returns-in_err-whole : goal.returns-in_err-whole
returns-in_err-whole c =
    let p = err_from_is_err_and c.from_residual.result c.from_residual.ensures.1 in
    let test = λ (r : ℕ). large (sizes_at c.args.self.now.sizes.now r) in
    let stopped = why_declined _ _ _ _ c.in_err-whole.ensures in
    let why = refused_at 10 test c.args.tests.now c.loop-r.r-index _ (omega arith) c.loop-r.invariant.0 stopped in
    rw p.1 (refused _ _ _ _ (why ∙ ap (λ e. Some (notice e)) (sym p.2)) tt)

pub loop-r-preserved : goal.loop-r-preserved
loop-r-preserved c =
    let told = not_declined _ _ _ _ c.in_ok-whole.ensures in
    let i = c.loop-r.r-index in
    let test = λ (k : ℕ). get_or c.args.tests.now k 0 in
    let v = λ (k : ℕ). read_value c.args.self.now.pairs.now (test k) in
    let t = λ (k : ℕ). read_slope c.args.self.now.pairs.now (test k) in
    let fits = not_refused 10 (λ r. large (sizes_at c.args.self.now.sizes.now r)) (test i ∷ []) told.0 0 (omega arith) in (
      below_more (λ k. large (sizes_at c.args.self.now.sizes.now (test k)) ≡ false) i c.loop-r.invariant.0 fits,
      range_more v t i _ _ _ _ _ _ c.loop-r.invariant.1 told.1.value told.1.slope c.narrow-range.ensures,
    )

pub returns : goal.returns
returns c =
    let tests = c.args.tests.now in
    let end : c.loop-r.r-index ≡ length tests = omega arith in
    let none = first_none (λ r. large (sizes_at c.args.self.now.sizes.now r)) tests (λ k h. c.loop-r.invariant.0 k (omega arith)) in
    accepted _ _ _ _ (ap (λ found. refuse_first 10 found None) none)
    (range_all (λ k. read_value c.args.self.now.pairs.now (get_or tests k 0)) (λ k. read_slope c.args.self.now.pairs.now (get_or tests k 0)) _ _ _ _ end c.loop-r.invariant.1)
