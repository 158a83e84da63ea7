use Rattle.std.proofs.Common.{◌+◌, ◌%◌, drop, ap, ◌∙◌, drop-drop, arith}
use Rattle.sets.specs.Views.{pages_of}
use Rattle.sets.specs.Pages.{pages_less}
use Rattle.sets.proofs.set.without.Goals as goal

-- One more of the lowest pages goes.
pub loop-preserved : goal.loop-preserved
loop-preserved c =
    let below = (c.loop.rest + 4294967295) % 4294967296 in
    pages_less c.loop.rest below (omega arith) (omega arith) (omega arith) ∙ ap (drop 1) c.loop.invariant ∙ drop-drop 1 c.loop.counter (pages_of c.args.set)
