-- What has gone out, with what is left to go, is what goes out of all.
use Rattle.std.proofs.Common.{◌≡◌, ◌*◌, ◌-◌}
use lib.Bits.{bit_xor}
use Rattle.rules.specs.Crc.{mirror}
use Rattle.crc.proofs.Nibbles.{shifted}
use Rattle.crc.proofs.nibbles_out.Given as goal

abbrev pub invariant-loop-k : goal.invariant-loop-k
invariant-loop-k g l = bit_xor l.r (shifted (mirror (4 * (8 - l.k)) l.left)) ≡ shifted (mirror (4 * g.row.N) l.a)
