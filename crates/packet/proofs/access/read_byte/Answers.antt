-- The byte at the address's place.
use Rattle.std.proofs.Common.{arith}
use Rattle.sets.specs.Views.{pages_of}
use Rattle.packet.proofs.Facts.{room_place, byte_at}
use Rattle.packet.proofs.access.read_byte.Goals as goal

pub bounds-memory-i : goal.bounds-memory-i
bounds-memory-i c = omega (arith, room_place c.requires _ _ c.place_of-i.ensures.1)

pub returns : goal.returns
returns c = byte_at c.args.at.0 c.place_of-i.result (pages_of c.args.pages) c.args.memory.now c.place_of-i.ensures.0
