-- The queue's bytes are those of its new entries; its count and its packets' bits are stored.
use Rattle.pool.proofs.Marks.{room}
use Rattle.pool.proofs.Changes.{part, back, joins}
use Rattle.pool.proofs.join.Goals as goal

pub set_bit-requires : goal.set_bit-requires
set_bit-requires g c = (c.requires.0.whole, room _ c.args.words.now _ _ (g.Q.Fifo.laws.in_bits _ _ c.requires.1) c.requires.3)

pub returns : goal.returns
returns g c =
    let f = g.Q.Fifo.laws in
    let q = c.args.queues.now in
    let pushed = rw (part f q _ c.FROM-from.ensures, c.COUNT.ensures) at c.push.ensures in
    rw (c.set_bit.ensures, c.COUNT-2.ensures, c.COUNT.ensures, back f q _ c.FROM-from.ensures _)
    (joins f q _ c.requires.0 c.requires.1 _ _ pushed c.requires.2)
