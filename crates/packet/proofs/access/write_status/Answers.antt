-- Both bytes lie in the first page.
use Rattle.std.proofs.Common.{ℕ, [], ◌∷◌, ap, sym, ◌∙◌, arith}
use Rattle.std.proofs.lemmas.List.Edits.{sets}
use Rattle.rules.specs.Bits.{low_byte, high_byte}
use Rattle.lists.specs.Bytes.{put_within}
use Rattle.sets.specs.Views.{pages_of}
use Rattle.packet.proofs.Facts.{room_place}
use Rattle.packet.proofs.access.write_status.Goals as goal

pub put_word-requires : goal.put_word-requires
put_word-requires c = omega (arith, room_place c.requires _ 0 c.place_in.ensures.1)

pub returns : goal.returns
returns c =
    let bytes = low_byte c.args.status ∷ high_byte c.args.status ∷ [] in
    let m = c.args.memory.now in
    c.put_word.ensures ∙ ap (λ (i : ℕ). sets m i bytes) c.place_in.ensures.0 ∙ sym (put_within (pages_of c.args.pages) bytes 0 m (omega arith))
