-- What the frame makes is right.
use Rattle.chip.specs.Rights.{right_frame}
use Rattle.chip.proofs.frames.arrived.Goals as goal

pub returns : goal.returns
returns g c = right_frame _ _ _ _ c.requires _ _ _ _ _ _ c.arrived.ensures
