-- The words, then the pool with its figures, then RCR.
use Rattle.reset.specs.Power.{soft}
use Rattle.reset.proofs.resets.soft_reset.Goals as goal

pub returns : goal.returns
returns c = λ l o. soft o.sets c.reset_words.ensures (c.reset.ensures l)
