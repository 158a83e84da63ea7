-- The bytes still to go, from the remainder so far, give what all give from the first.
use Rattle.std.proofs.Common.{◌≡◌, ◌*◌, drop}
use Rattle.rules.specs.Crc.{crc_from, mirror}
use Rattle.crc.proofs.remainder_from.Given as goal

abbrev pub invariant-loop-four : goal.invariant-loop-four
invariant-loop-four l = crc_from (mirror 32 l.r) (drop (l.four-index * 4) l.bytes) ≡ crc_from (mirror 32 l.s) l.bytes

abbrev pub invariant-loop-byte : goal.invariant-loop-byte
invariant-loop-byte l = crc_from (mirror 32 l.r) (drop l.byte-index l.rest) ≡ crc_from (mirror 32 l.s) l.bytes
