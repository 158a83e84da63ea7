use Rattle.std.proofs.Common.{refl}
use Rattle.rules.specs.Bits.{bit}
use Rattle.queues.proofs.marks.has.Goals as goal

-- A shift to the right by k divides by 2 ^ k.
pub returns : goal.returns
unfolding bit
returns c = refl
