-- The byte at the address's place.
use Rattle.std.proofs.Common.{[], ◌∷◌, sym, arith}
use Rattle.rules.specs.Bits.{low_byte}
use Rattle.strip_bytes.specs.Strip.{strip_put}
use Rattle.strip_bytes.proofs.access.write_byte.Goals as goal

pub returns : goal.returns
returns c =
    rw (c.low_byte.ensures, c.place_of-i.ensures)
    (sym (strip_put c.args.packet.0 8 (low_byte c.args.value ∷ []) c.args.at.0 c.args.memory.now (omega (arith, c.requires.within))))
