-- By whether n is odd.
use Rattle.std.proofs.Common.{arith}
use Rattle.rules.specs.Bits.{low_byte, high_byte}
use Rattle.rules.specs.Receive.{count_of, trailer}
use Rattle.lists.specs.Bytes.{count_least}
use Rattle.strip_bytes.proofs.Facts.{strip_less}
use Rattle.strip_bytes.proofs.frame.write_trailer.Goals as goal

pub overflow_add-at : goal.overflow_add-at
overflow_add-at c = omega (arith, count_least c.args.n, c.requires.within)

pub overflow_cast-at : goal.overflow_cast-at
overflow_cast-at c = omega (arith, count_least c.args.n, c.requires.within)

pub write_byte-requires : goal.write_byte-requires
write_byte-requires c = strip_less c.requires _ (omega (arith, count_least c.args.n))

pub returns-then-is_odd : goal.returns-then-is_odd
unfolding trailer low_byte
returns-then-is_odd c = rw (← c.if-is_odd.ensures) c.write_byte.ensures

pub write_word-requires : goal.write_word-requires
unfolding count_of
write_word-requires c = strip_less c.requires _ (rw (← c.if-is_odd.ensures) (omega arith))

pub returns-else-is_odd : goal.returns-else-is_odd
unfolding trailer low_byte high_byte
returns-else-is_odd c = rw (← c.if-is_odd.ensures) c.write_word.ensures
