-- What the lent part is left as, put back between the bytes before and behind it, is memory with the bytes put.
use Rattle.std.proofs.Common.{ℕ, ◌+◌, ◌-◌, ◌%◌, List, ◌++◌, take, drop, ap, ◌∙◌, arith}
use Rattle.lists.specs.Bytes.{part_put}
use Rattle.sets.specs.Views.{pages_of}
use Rattle.packet.proofs.Facts.{room_place}
use Rattle.packet.proofs.fill.fill_page.Goals as goal

pub returns : goal.returns
returns c =
    let m = c.args.memory.now in
    let a = c.args.at.0 % 256 in
    let i = c.place_in-start.result in
    let k = i + (256 - a) - i in
    ap (λ (y : List ℕ). take i m ++ (y ++ drop k (drop i m))) c.fill_part.ensures
    ∙ part_put (pages_of c.args.rest) c.args.part.now m a i k c.place_in-start.ensures.0 (omega (arith, c.requires.0)) (omega (arith, c.requires.0))
    (omega (arith, room_place c.requires.1 i c.args.at.0 c.place_in-start.ensures.1))
