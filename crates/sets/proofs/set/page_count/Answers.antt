use Rattle.std.proofs.Common.{sym, arith}
use Rattle.sets.specs.Pages.{pages_count}
use Rattle.sets.proofs.set.page_count.Goals as goal

pub returns : goal.returns
returns c = sym (pages_count c.args.set (omega arith))
