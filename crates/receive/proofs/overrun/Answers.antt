-- A store before the step of a frame that is aborted.
use Rattle.receive.proofs.Facts.{does_after, sets_overrun}
use Rattle.receive.proofs.overrun.Goals as goal

pub aborted-requires : goal.aborted-requires
aborted-requires c = (sets_overrun _ c.args.words.now c.requires c.with_set.ensures).kept

pub returns : goal.returns
returns c = does_after (sets_overrun _ c.args.words.now c.requires c.with_set.ensures) c.aborted.ensures
