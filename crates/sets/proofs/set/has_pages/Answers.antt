use Rattle.std.proofs.Common.{sym, arith}
use Rattle.sets.specs.Pages.{some_pages}
use Rattle.sets.proofs.set.has_pages.Goals as goal

pub returns : goal.returns
returns c = sym (some_pages c.args.set (omega arith))
