-- One that has started the part is done; any other is answered by its step.
use Rattle.strip_serving.specs.First.{turns_started, turns_plain}
use Rattle.strip_serving.proofs.serve.turn.Goals as goal

pub returns-then-started : goal.returns-then-started
returns-then-started c number o = turns_started c.args.bytes.now c.requires.0 c.if-started.true o

pub returns : goal.returns
returns c number o = turns_plain c.args.bytes.now c.answer_cut.ensures c.if-started.false o
