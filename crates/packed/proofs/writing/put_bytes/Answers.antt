use Rattle.std.proofs.Common.{◌≡◌, ℕ, ◌+◌, ◌-◌, ◌*◌, ◌/◌, ◌^◌, set, take, refl, ap, ◌∙◌, arith}
use Rattle.std.proofs.Math.ListN.{length-set}
use Rattle.std.proofs.lemmas.Nat.{and_mask}
use Rattle.packed.specs.Bits.{bits, spread}
use Rattle.packed.proofs.Encoding.{byte_put}
use Rattle.packed.proofs.writing.put_bytes.Goals as goal

pub loop-byte-init : goal.loop-byte-init
unfolding bits spread
loop-byte-init c = (omega arith, refl)

pub loop-byte-preserved : goal.loop-byte-preserved
loop-byte-preserved c =
    let bytes = c.loop-byte.bytes in
    let i = c.loop-byte.byte-index in
    let above = c.loop-byte.above - 8 in
    let word = c.args.word in
    let before : c.loop-byte.above ≡ above + 8 = omega arith in
    let more : 8 * i + 8 ≡ 8 * (i + 1) = omega arith in (
      omega (arith, length-set {A = ℕ}),
      ap (λ byte. spread (take (i + 1) (set bytes i byte))) (and_mask (word / 2 ^ above) 8)
          ∙ byte_put bytes i above word (omega arith) (c.loop-byte.invariant.1 ∙ ap (λ k. bits (8 * i) (word / 2 ^ k)) before)
          ∙ ap (λ n. bits n (word / 2 ^ above)) more,
    )
