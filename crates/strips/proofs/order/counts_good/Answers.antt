-- At the end no count is left, and what was added is all.
use Rattle.std.proofs.Common.{subst, sym, drop_of_length-le}
use Rattle.lists.specs.Facts.{agrees, eq_decides}
use Rattle.strips.specs.Counts.{GoodCounts, counts_end}
use Rattle.strips.proofs.order.counts_good.Goals as goal

pub returns : goal.returns
returns c =
    let none = drop_of_length-le c.args.counts.now {i = c.loop-pages.pages-index} c.loop-pages-test.false in
    let end = counts_end c.args.size c.loop-pages.sum in
    let rest = c.loop-pages.invariant.rest in
    agrees (eq_decides _ _) (λ e. rest.1 (subst (GoodCounts c.args.size c.loop-pages.sum) (sym none) (end.1 e)))
    (λ g. end.0 (subst (GoodCounts c.args.size c.loop-pages.sum) none (rest.0 g)))
