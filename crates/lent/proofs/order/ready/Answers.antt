-- A record that holds is as long as it must be.
use Rattle.lists.specs.Facts.{refutes}
use Rattle.state.specs.Places.{record_long}
use Rattle.lent.proofs.order.ready.Goals as goal

pub returns-else-sized : goal.returns-else-sized
returns-else-sized c =
    rw c.if-sized.false (refutes c.sized.ensures (λ h. record { words = h.ready.sound.kept.whole; sets = record_long h; queues = h.ready.sound.queues.long }) c.if-sized.false)
