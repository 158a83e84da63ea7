-- Head, data and trailer, one after the other, are the image.
use Rattle.std.proofs.Common.{rules, ◌+◌, ◌∙◌, arith}
use Rattle.rules.specs.Receive.{trailer}
use Rattle.lists.specs.Bytes.{count_least}
use Rattle.sets.specs.Views.{pages_of}
use Rattle.packet.proofs.Facts.{room_less, room_put, room_small, room_rest, put_rest, put_image}
use Rattle.packet.proofs.frame.store_frame.Goals as goal

pub write_head-requires : goal.write_head-requires
write_head-requires c = room_less c.requires.1 _ (omega (arith, count_least c.args.n))

pub store_data-last-requires : goal.store_data-last-requires
store_data-last-requires c = (c.requires.0, room_less (room_put c.requires.1 _ _ _ c.write_head.ensures) _ (omega (arith, count_least c.args.n)))

pub write_trailer-requires : goal.write_trailer-requires
write_trailer-requires c =
    let n = c.args.n in
    let d = c.store_data-last in
    let room = room_put (room_put c.requires.1 _ _ _ c.write_head.ensures) _ _ _ d.ensures.stored in
    (omega (arith, count_least n, room_small c.requires.1 (search rules)), room_rest room d.result (n + 4) d.ensures.last (omega (arith, count_least n)))

pub returns : goal.returns
returns c =
    let x = c.args in
    let d = c.store_data-last in
    let pages = pages_of x.pages in
    put_image x.status x.count x.n x.frame.now pages x.memory.now c.requires.0 c.write_head.ensures d.ensures.stored
    (c.write_trailer.ensures ∙ put_rest (x.n + 4) (pages_of d.result) pages d.ensures.last (trailer x.n) _)
