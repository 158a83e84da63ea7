-- The two bytes, one after the other.
use Rattle.std.proofs.Common.{[], ◌∷◌, sym, add-one, arith}
use Rattle.rules.specs.Bits.{low_byte, high_byte}
use Rattle.strip_bytes.specs.Strip.{strip_put}
use Rattle.strip_bytes.proofs.access.write_word.Goals as goal

pub returns : goal.returns
returns c =
    let v = c.args.value in
    rw (c.low_byte.ensures, c.high_byte.ensures, c.place_of-i.ensures, add-one)
    (sym (strip_put c.args.packet.0 8 (low_byte v ∷ high_byte v ∷ []) c.args.at.0 c.args.memory.now (omega (arith, c.requires.within))))
