-- The answer for all entries is that for those from here on, beside the packets seen so far; and what is added so far is what those before add up to, 255 each at most.
use Rattle.std.proofs.Common.{◌≡◌, ◌*◌, ◌^◌, ◌≤◌, ◌<◌, take, drop, map, sum}
use Rattle.sets.specs.Views.{pages_of}
use Rattle.guard.specs.Pass.{passes, gathered}
use Rattle.guard.proofs.fifos.fresh.Given as goal

abbrev pub invariant-loop-entry : goal.invariant-loop-entry
invariant-loop-entry l = record {
  rest : passes (map pages_of l.sets) l.seen l.entry-items ≡ passes (map pages_of l.sets) l.packets (drop l.entry-index l.entry-items);
  seen : gathered l.seen l.entry-items ≡ gathered l.packets (drop l.entry-index l.entry-items);
  fits : l.packets < 2 ^ 32;
  added : l.sum ≡ sum (take l.entry-index l.entry-items);
  small : l.sum ≤ 255 * l.entry-index;
}
