-- The counts are good exactly where those from here on are, beside the free pages and what is added to them so far.
use Rattle.std.proofs.Common.{◌↔◌, ◌+◌, ◌*◌, ◌<◌, drop}
use Rattle.strips.specs.Counts.{GoodCounts}
use Rattle.strips.proofs.order.counts_good.Given as goal

abbrev pub invariant-loop-pages : goal.invariant-loop-pages
invariant-loop-pages l = record {
  rest : GoodCounts l.size l.free l.counts ↔ GoodCounts l.size l.sum (drop l.pages-index l.counts);
  small : l.sum < 256 + 8 * l.pages-index;
}
