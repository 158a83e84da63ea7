use Rattle.std.proofs.Common.{arith}
use Rattle.std.proofs.lemmas.Grind.{common_steps}
use Rattle.guard.specs.Pass.{passes, gathered, allocated_below, joined_sum, joined_fits, pass_here, gather_here}
use Rattle.guard.proofs.fifos.fresh.Goals as goal

pub has-requires : goal.has-requires
has-requires c = grind (arith, allocated_below)

pub returns-then-not-has_pages : goal.returns-then-not-has_pages
returns-then-not-has_pages c = grind (arith, common_steps, pass_here)

pub with-packets-requires : goal.with-packets-requires
with-packets-requires c = grind (arith, allocated_below, joined_fits)

pub loop-entry-preserved : goal.loop-entry-preserved
loop-entry-preserved c = grind (arith, common_steps, pass_here, gather_here, joined_sum)

pub returns : goal.returns
unfolding passes gathered
returns c = grind (arith, common_steps)
