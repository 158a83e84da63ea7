-- What powers up is in order: the paged chip's.
use Rattle.rules.specs.Chip.{paged}
use Rattle.chip.specs.Rights.{started_order}
use Rattle.access_costs.proofs.Lent.powered_up.Goals as goal

pub returns : goal.returns
returns c = started_order (c.power_up.ensures paged)
