-- The answer for all entries is that for those from here on, and what is added so far is what those before add up to, 255 each at most.
use Rattle.std.proofs.Common.{◌≡◌, ◌*◌, ◌≤◌, take, drop, sum}
use Rattle.rules.specs.Tests.{all_below}
use Rattle.guard.proofs.fifos.all_below.Given as goal

abbrev pub invariant-loop-entry : goal.invariant-loop-entry
invariant-loop-entry l = record {
  rest : all_below l.limit l.entry-items ≡ all_below l.limit (drop l.entry-index l.entry-items);
  added : l.sum ≡ sum (take l.entry-index l.entry-items);
  small : l.sum ≤ 255 * l.entry-index;
}
