use Rattle.std.proofs.Common.{arith}
use Rattle.std.proofs.lemmas.Grind.{common_steps}
use Rattle.rules.specs.Tests.{all_below}
use Rattle.guard.specs.Pass.{below_here}
use Rattle.guard.proofs.fifos.all_below.Goals as goal

pub returns-then-limit-entry : goal.returns-then-limit-entry
returns-then-limit-entry c = grind (arith, common_steps, below_here)

pub loop-entry-preserved : goal.loop-entry-preserved
loop-entry-preserved c = grind (arith, common_steps, below_here)

pub returns : goal.returns
unfolding all_below
returns c = grind (arith, common_steps)
