-- The pool is emptied, then the result is stored.
use Rattle.commands.specs.Returns.{resets}
use Rattle.commands.proofs.do_reset.Goals as goal

pub returns : goal.returns
returns c = λ l o mem. resets c.args.words.now c.args.sets.now c.args.queues.now mem (c.reset.ensures l) c.give_result.ensures

pub give_result-requires : goal.give_result-requires
give_result-requires c = (c.reset.ensures c.requires.0).sound.kept
