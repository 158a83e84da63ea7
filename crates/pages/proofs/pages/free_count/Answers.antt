-- The high byte of a word.
use Rattle.std.proofs.Common.{arith}
use Rattle.rules.specs.Bits.{high_byte}
use Rattle.pages.proofs.pages.free_count.Goals as goal

pub returns : goal.returns
unfolding high_byte
returns c = omega (arith, c.high_byte.ensures, c.type_inv.words 4)
