-- A broadcast, or the lowest bit of the first byte.
use Rattle.std.proofs.Common.{arith}
use Rattle.sending.proofs.Addressed.{broadcast_bits, group_bits}
use Rattle.sending.proofs.address.address_bits.Goals as goal

pub returns-then-is_broadcast : goal.returns-then-is_broadcast
returns-then-is_broadcast g c = (broadcast_bits (g.L.Store.pages_in c.args.home) c.args.memory.now c.is_broadcast.ensures c.if-is_broadcast.true, omega arith)

pub returns : goal.returns
returns g c = (
  group_bits (g.L.Store.pages_in c.args.home) c.args.memory.now c.is_broadcast.ensures c.if-is_broadcast.false c.read_byte-first.ensures c.byte_is_set.ensures c.flag_of.ensures.0,
  omega (arith, c.flag_of.ensures.1),
)
