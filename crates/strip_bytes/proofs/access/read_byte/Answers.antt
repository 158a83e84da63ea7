-- The byte at the address's place.
use Rattle.std.proofs.Common.{arith}
use Rattle.strip_bytes.proofs.Facts.{strip_byte}
use Rattle.strip_bytes.proofs.access.read_byte.Goals as goal

pub returns : goal.returns
returns c = strip_byte c.args.packet.0 c.args.at.0 c.place_of-i.result c.args.memory.now (omega (arith, c.requires.within)) c.place_of-i.ensures
