use Rattle.std.proofs.Common.{sym, arith}
use Rattle.sets.specs.Pages.{pages_lowest}
use Rattle.sets.proofs.set.lowest_page.Goals as goal

pub returns : goal.returns
returns c = sym (pages_lowest c.args.set (omega arith) c.requires)
