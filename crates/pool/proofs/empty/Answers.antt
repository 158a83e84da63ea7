-- The queue's bytes are those of no entries.
use Rattle.pool.proofs.Changes.{part, back, empties}
use Rattle.pool.proofs.empty.Goals as goal

pub returns : goal.returns
returns g c =
    let f = g.Q.Fifo.laws in
    let q = c.args.queues.now in
    let emptied = rw (part f q _ c.FROM-from.ensures) at c.empty.ensures in
    rw (c.clear_all.ensures, c.COUNT.ensures, back f q _ c.FROM-from.ensures _) (empties f q _ c.requires.0 c.requires.1 _ emptied)
