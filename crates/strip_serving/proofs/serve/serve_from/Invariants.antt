-- Between two records the chip is held in order, and no buffer has changed its length; the record's number grows, so the loop ends. Record 1 alone may have started the part.
use Rattle.std.proofs.Common.{◌≡◌, ◌-◌, ◌≤◌, length, take}
use Rattle.rules.specs.Chip.{strips}
use Rattle.state.specs.View.{view_of}
use Rattle.lines.specs.Counting.{Counts}
use Rattle.records.specs.Gathers.{holding}
use Rattle.turns.specs.Turns.{HeldOf}
use Rattle.strip_serving.specs.First.{Opens}
use Rattle.strip_serving.proofs.serve.serve_from.Given as goal

abbrev pub invariant-loop-counter : goal.invariant-loop-counter
invariant-loop-counter g l = record {
  held : HeldOf strips l.words l.counts l.queues l.memory l.wire l.have;
  counts : Counts l.counter;
  number : 1 ≤ l.counter.number;
  filled : l.filled ≤ 8;
  bytes : length l.bytes ≡ 8;
  line : length l.line ≡ 40;
  opens : Opens l.started l.counter.number (take l.filled l.bytes) (holding (view_of strips l.words l.counts l.queues l.memory) (take l.have l.wire) l.out);
}

abbrev pub decreases-loop-counter : goal.decreases-loop-counter
decreases-loop-counter g l = 0x8000000000000000 - l.counter.number
