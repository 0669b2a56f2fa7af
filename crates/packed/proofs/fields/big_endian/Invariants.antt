use Rattle.std.proofs.Common.{◌≡◌, take}
use Rattle.packed.specs.Bits.{number, spread}
use Rattle.packed.proofs.fields.big_endian.Given as goal

-- the bytes so far
abbrev pub invariant-loop-byte : goal.invariant-loop-byte
invariant-loop-byte l = l.word ≡ number (spread (take l.byte-index l.bytes))
