use Rattle.sets.specs.Pages.{rest_some}
use Rattle.sets.proofs.set.nth_page.Goals as goal

pub lowest_page-requires : goal.lowest_page-requires
lowest_page-requires c = rest_some c.args.set c.without.result c.args.k c.without.ensures c.requires
