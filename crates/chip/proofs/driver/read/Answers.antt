-- What the table makes is right.
use Rattle.chip.specs.Rights.{right_access}
use Rattle.chip.proofs.driver.read.Goals as goal

pub returns : goal.returns
returns g c = right_access _ _ _ _ c.requires _ _ _ _ _ _ c.read.ensures
