-- The queue's bytes are those of its entries behind the head; its count and its packets' bits are stored.
use Rattle.std.proofs.Common.{◌∙◌, arith}
use Rattle.pool.specs.Queues.{head_told}
use Rattle.pool.proofs.Marks.{there}
use Rattle.pool.proofs.Changes.{part, back, leaves}
use Rattle.pool.proofs.leave.Goals as goal

pub pop-requires : goal.pop-requires
pop-requires g c =
    let f = g.Q.Fifo.laws in
    let q = c.args.queues.now in
    let w = c.args.words.now in
    let h = f.in_slots w q c.requires.1 in
    rw (part f q _ c.FROM-from.ensures, c.COUNT.ensures) (c.requires.2, h.fits)

pub clear_bit-requires : goal.clear_bit-requires
clear_bit-requires g c =
    let f = g.Q.Fifo.laws in
    let q = c.args.queues.now in
    let w = c.args.words.now in
    let h = f.in_slots w q c.requires.1 in
    (c.requires.0.whole, there _ _ (omega (arith, h.many, c.requires.2)) (c.head-head.ensures ∙ head_told _ _ q h c.requires.2) _ w (f.in_bits w q c.requires.1))

pub returns-clause-left : goal.returns-clause-left
returns-clause-left g c =
    let f = g.Q.Fifo.laws in
    let q = c.args.queues.now in
    let w = c.args.words.now in
    let h = f.in_slots w q c.requires.1 in
    let popped = rw (part f q _ c.FROM-from.ensures, c.COUNT.ensures) at c.pop.ensures in
    rw (c.clear_bit.ensures, c.COUNT-2.ensures, c.COUNT.ensures, back f q _ c.FROM-from.ensures _)
    (leaves f q w c.requires.0 c.requires.1 _ _ popped c.requires.2 (c.head-head.ensures ∙ head_told _ _ q h c.requires.2))
