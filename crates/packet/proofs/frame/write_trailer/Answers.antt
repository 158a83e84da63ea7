-- By whether n is odd; an even address is not the last of its page.
use Rattle.std.proofs.Common.{ℕ, ◌+◌, ◌%◌, List, [], ◌∷◌, ap, sym, ◌∙◌, arith}
use Rattle.std.proofs.lemmas.List.Edits.{sets}
use Rattle.rules.specs.Bits.{low_byte, high_byte}
use Rattle.rules.specs.Packet.{put_bytes}
use Rattle.rules.specs.Receive.{trailer}
use Rattle.lists.specs.Bytes.{put_within}
use Rattle.sets.specs.Views.{pages_of}
use Rattle.packet.proofs.Facts.{room_place, even_end}
use Rattle.packet.proofs.frame.write_trailer.Goals as goal

pub put_word-requires : goal.put_word-requires
put_word-requires c = omega (arith, room_place c.requires.1 _ _ c.place_in-i.ensures.1, even_end c.args.n c.if-is_odd.ensures)

pub returns-then-is_odd : goal.returns-then-is_odd
unfolding put_bytes trailer
returns-then-is_odd c = rw (← c.if-is_odd.ensures, c.place_in-i.ensures.0)

pub returns-else-is_odd : goal.returns-else-is_odd
unfolding trailer low_byte high_byte
returns-else-is_odd c =
    let m = c.args.memory.now in
    let bytes : List ℕ = 0 ∷ 0x40 ∷ [] in
    rw (← c.if-is_odd.ensures)
    (c.put_word.ensures
    ∙ ap (λ (i : ℕ). sets m i bytes) c.place_in-i.ensures.0
    ∙ sym (put_within (pages_of c.args.last) bytes ((c.args.n + 4) % 256) m (omega (arith, even_end c.args.n c.if-is_odd.ensures))))
