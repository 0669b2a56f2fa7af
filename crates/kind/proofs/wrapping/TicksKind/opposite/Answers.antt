use Rattle.std.proofs.Common.{◌≡◌, neg_ℤ, w64, to_z, of_z, rules}
use Rattle.std.specs.Int.{int_wrap}
use Rattle.std.proofs.lemmas.Int.{wraps}
use Rattle.kind.proofs.Words.{tick_opposite}
use Rattle.kind.proofs.wrapping.TicksKind.opposite.Goals as goal

pub returns : goal.returns
returns c =
    let is : to_z w64 (of_z w64 c.wrapping_neg.result) ≡ int_wrap w64 (neg_ℤ c.args.self.0) = search (rules, wraps) in
    record { meaning = tick_opposite _ c.args.self.0 (search rules) is; exact = is }
