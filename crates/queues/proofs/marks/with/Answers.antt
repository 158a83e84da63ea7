use Rattle.std.proofs.Common.{arith}
use Rattle.queues.proofs.Powers.{smaller}
use Rattle.queues.proofs.marks.with.Goals as goal

-- 2 ^ k is a number of 32 bits, so k is below 32.
pub bit_of-requires : goal.bit_of-requires
bit_of-requires c = smaller c.args.packet.0 32 (omega arith)
