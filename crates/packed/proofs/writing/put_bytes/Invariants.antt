use Rattle.std.proofs.Common.{◌≡◌, ◌+◌, ◌*◌, ◌/◌, ◌^◌, length, take}
use Rattle.packed.specs.Bits.{bits, spread}
use Rattle.packed.proofs.writing.put_bytes.Given as goal

-- the bytes so far hold the highest bits
abbrev pub invariant-loop-byte : goal.invariant-loop-byte
invariant-loop-byte l =
    (l.above + 8 * l.byte-index ≡ l.rest + 8 * length l.bytes)
    × (spread (take l.byte-index l.bytes) ≡ bits (8 * l.byte-index) (l.word / 2 ^ l.above))
