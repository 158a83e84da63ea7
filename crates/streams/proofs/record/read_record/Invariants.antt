-- Each turn reads a byte at least, and none behind the eighth.
use Rattle.std.proofs.Common.{◌-◌, ◌≤◌}
use Rattle.streams.proofs.record.read_record.Given as goal

abbrev pub invariant-loop-filled : goal.invariant-loop-filled
invariant-loop-filled g l = l.filled ≤ 8

abbrev pub decreases-loop-filled : goal.decreases-loop-filled
decreases-loop-filled g l = 8 - l.filled
