-- By the guard.
use Rattle.chip.specs.Rights.{damaged, answered, not_so}
use Rattle.chip.proofs.frames.frame.Goals as goal

pub arrived_whole-answer-requires : goal.arrived_whole-answer-requires
arrived_whole-answer-requires g c = c.in_order.ensures.sound c.if-in_order.true

pub returns-then-in_order : goal.returns-then-in_order
returns-then-in_order g c = answered _ (c.in_order.ensures.sound c.if-in_order.true) c.arrived_whole-answer.ensures

pub returns-else-in_order : goal.returns-else-in_order
returns-else-in_order g c = damaged _ (not_so c.in_order.ensures c.if-in_order.false)
