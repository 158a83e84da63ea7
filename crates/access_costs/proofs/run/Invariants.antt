-- The state is in order before and after each record, and so before and after each round.
use Rattle.state.specs.Entry.{InOrder}
use Rattle.access_costs.proofs.run.Given as goal

abbrev pub invariant-loop : goal.invariant-loop
invariant-loop l = InOrder l.lent.words l.lent.sets l.lent.queues l.lent.memory

abbrev pub invariant-loop-record : goal.invariant-loop-record
invariant-loop-record l = InOrder l.lent.words l.lent.sets l.lent.queues l.lent.memory
