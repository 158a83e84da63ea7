-- The registers are set beside the queues, and then the head leaves TX.
use Rattle.outcomes.specs.Numbers.{send_of}
use Rattle.outcomes.proofs.Facts.{leaves}
use Rattle.outcomes.proofs.after.after_send.Goals as goal

pub returns-clause-sent : goal.returns-clause-sent
returns-clause-sent c = leaves c.args.good (send_of c.args.s) c.args.address c.requires.1 c.requires.2 (rw c.of.ensures at c.set_registers.ensures) c.leave.ensures.left
