-- By what the check says, then as the link event says.
use Rattle.std.specs.Prelude.{not}
use Rattle.std.proofs.Common.{ap}
use Rattle.chip.specs.Rights.{not_in, is_in}
use Rattle.skarvoya.specs.Called.{refuses, calls}
use Rattle.skarvoya.proofs.events.skarvoya_link.Goals as goal

pub returns-then-not-in_order : goal.returns-then-not-in_order
returns-then-not-in_order c = refuses _ (not_in c.in_order.ensures (ap not c.if-not-in_order.true)) c.told.ensures

pub linked_whole-requires : goal.linked_whole-requires
linked_whole-requires c = is_in c.in_order.ensures (ap not c.if-not-in_order.false)

pub returns : goal.returns
returns c = calls _ (is_in c.in_order.ensures (ap not c.if-not-in_order.false)) c.linked_whole.ensures c.told-2.ensures
