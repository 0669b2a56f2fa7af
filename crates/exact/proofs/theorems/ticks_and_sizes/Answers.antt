use Rattle.kind.proofs.Words.{tick_image}
use Rattle.exact.specs.Ranges.{KeepsAll}
use Rattle.exact.specs.Wholes.{whole_slope, whole_value}
use Rattle.exact.proofs.Bounding as bounding
use Rattle.exact.proofs.RangeLaws.{not_above, not_below, range_unique}
use Rattle.exact.proofs.WholeLaws.{whole_laws}
use Rattle.exact.proofs.theorems.ticks_and_sizes.Goals as goal

pub returns : goal.returns
returns c = record {
  laws = whole_laws;
  bounds = bounding.ticks_and_sizes;
  images = λ t fits. tick_image t.0 fits;
  range = record {
    one = λ q tests a b h k. range_unique (KeepsAll (whole_value q) (whole_slope q) tests) _ _ h _ _ k;
    below = λ q tests range s h. not_below (KeepsAll (whole_value q) (whole_slope q) tests) _ _ h s;
    above = λ q tests range s h. not_above (KeepsAll (whole_value q) (whole_slope q) tests) _ _ h s;
  };
}
