-- The latches, then the head of completion where one is asked for and there is one.
use Rattle.std.proofs.Common.{sym, ◌∙◌, arith}
use Rattle.interrupts.proofs.Acknowledge.{kept_then, queues_then, none_asked, none_there, head_leaves}
use Rattle.interrupts.proofs.interrupts.acknowledge.Goals as goal

pub returns-then-not-is_set : goal.returns-then-not-is_set
returns-then-not-is_set c = none_asked c.args.v _ c.args.words.now c.args.queues.now c.requires.0 c.requires.1 c.latches_after.ensures (sym c.is_set.ensures ∙ c.if-not-is_set.true)

pub returns-then-words-eq0 : goal.returns-then-words-eq0
returns-then-words-eq0 c = none_there c.args.v _ c.args.words.now c.args.queues.now c.requires.0 c.requires.1 c.latches_after.ensures c.if-words-eq0.true

pub leave-requires : goal.leave-requires
leave-requires c =
    (kept_then c.args.v _ c.args.words.now c.args.queues.now c.requires.0 c.requires.1 c.latches_after.ensures, queues_then c.args.v _ c.args.words.now c.args.queues.now c.requires.0 c.requires.1 c.latches_after.ensures, omega (arith, c.if-words-eq0.false))

pub returns : goal.returns
returns c = head_leaves c.args.v _ c.args.words.now c.args.queues.now c.requires.0 c.requires.1 c.latches_after.ensures (sym c.is_set.ensures ∙ c.if-not-is_set.false) c.leave.ensures.left
