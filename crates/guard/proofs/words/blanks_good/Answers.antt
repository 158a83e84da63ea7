-- Four words joined are 0 where each is.
use Rattle.guard.specs.Zeros.{none_decides, blank_none}
use Rattle.guard.proofs.words.blanks_good.Goals as goal

pub returns : goal.returns
returns c = none_decides (blank_none c.args.words.now)
