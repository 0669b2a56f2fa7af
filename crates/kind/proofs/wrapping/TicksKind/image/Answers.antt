use Rattle.std.proofs.Common.{ap, ◌∙◌}
use Rattle.std.proofs.lemmas.Int.{to_z-of_z}
use Rattle.kind.specs.Wrapping.{tick}
use Rattle.kind.proofs.Words.{tick_image}
use Rattle.kind.proofs.wrapping.TicksKind.image.Goals as goal

pub returns-clause-meaning : goal.returns-clause-meaning
returns-clause-meaning c = ap (λ z. tick (record { 0 = z })) (to_z-of_z _ _ c.ranges.n) ∙ tick_image _ c.ranges.n
