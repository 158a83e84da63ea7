use Rattle.state.specs.Stores.{store_none}
use Rattle.pool.proofs.figures.store_none.Goals as goal

pub returns : goal.returns
returns c = store_none _ _ c.word.ensures c.args.words.now c.requires
