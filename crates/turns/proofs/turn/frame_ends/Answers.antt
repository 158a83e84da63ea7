-- The bytes gathered stand within their buffer.
use Rattle.std.specs.Prelude.{refl}
use Rattle.turns.proofs.turn.frame_ends.Goals as goal

pub returns : goal.returns
returns g c = (c.arrived.ensures, refl)
