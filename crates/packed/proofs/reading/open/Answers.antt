use Rattle.std.proofs.Common.{◌≡◌, None, sym}
use mir.Facts.{Fits-lt-pow}
use Rattle.packed.specs.Looks.{fault_of}
use Rattle.packed.specs.Formats.{lines_in}
use Rattle.packed.proofs.Looking.{faultless}
use Rattle.packed.proofs.Decoding.{held, packed_of}
use Rattle.packed.proofs.reading.open.Goals as goal

pub invariant_of-result : goal.invariant_of-result
invariant_of-result c =
    let bytes = c.args.bytes.now in
    let counts = c.in_ok-controls.ensures.counts in
    let h = held bytes (faultless bytes (sym c.in_ok-controls.ensures.looks)) _ _ counts.0 counts.1 in
    record { some = h.0; few = h.1; room = h.2; filled = h.3; within = h.4; below = h.5; fit = h.6 }

pub returns : goal.returns
returns c =
    let bytes = c.args.bytes.now in
    let none : fault_of bytes ≡ None = sym c.in_ok-controls.ensures.looks in
    let counts = c.in_ok-controls.ensures.counts in (
      none,
      λ i. record { controls = counts.0 i; lines = lines_in bytes (counts.1 i) },
      packed_of bytes (faultless bytes none) (λ i. Fits-lt-pow (c.type_inv.bytes i)),
    )
