-- What is done to the words is right.
use Rattle.state.specs.Promise.{does_makes}
use Rattle.chip.specs.Rights.{right_link}
use Rattle.chip.proofs.links.linked.Goals as goal

pub returns : goal.returns
returns g c = right_link _ _ _ _ c.requires _ _ _ _ _ _ (does_makes c.plug.ensures.done c.requires.ready.sound _)
