-- Between two reads the chip is held in order, and no more than eight bytes are kept; each turn answers a record or reads a byte, so the loop ends.
use Rattle.std.proofs.Common.{◌+◌, ◌-◌, ◌*◌, ◌≤◌}
use Rattle.serving.specs.Bench.{Serves}
use Rattle.serving.proofs.serve.Program.serve_part.Given as goal

abbrev pub invariant-loop-number : goal.invariant-loop-number
invariant-loop-number g l = record {
  serves : Serves l.bench l.have;
  kept : l.kept ≤ 8;
  number : 1 ≤ l.number;
}

abbrev pub decreases-loop-number : goal.decreases-loop-number
decreases-loop-number g l = 83010348331692982280 - (9 * l.number + l.kept)
