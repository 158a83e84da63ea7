use Rattle.sets.specs.Pages.{pages_xor}
use Rattle.sets.proofs.set.lowest.Goals as goal

pub returns : goal.returns
returns c = pages_xor c.args.set c.without.result c.args.n c.without.ensures
