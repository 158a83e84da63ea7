-- Head, data and trailer, one after the other, are the image.
use Rattle.std.proofs.Common.{[], ◌∷◌, ap, ◌∙◌, arith}
use Rattle.rules.specs.Bits.{low_byte, high_byte}
use Rattle.rules.specs.Packet.{put_bytes}
use Rattle.lists.specs.Bytes.{count_least}
use Rattle.packet.proofs.Facts.{put_image}
use Rattle.strip_bytes.specs.Strip.{strip_of}
use Rattle.strip_bytes.proofs.Facts.{strip_less, strip_after}
use Rattle.strip_bytes.proofs.frame.store_frame.Goals as goal

pub store_data-requires : goal.store_data-requires
store_data-requires c =
    (c.requires.0, strip_less (strip_after (strip_after c.requires.1 _ _ _ c.write_word.ensures) _ _ _ c.write_word-2.ensures) _ (omega (arith, count_least c.args.n)))

pub returns : goal.returns
unfolding put_bytes
returns c =
    let x = c.args in
    let pages = strip_of x.packet.0 in
    put_image x.status x.count x.n x.frame.now pages x.memory.now c.requires.0
    (c.write_word-2.ensures ∙ ap (put_bytes (low_byte x.count ∷ high_byte x.count ∷ []) 2 pages) c.write_word.ensures)
    c.store_data.ensures c.write_trailer.ensures
