-- By what the check says, then as the arrival says.
use Rattle.std.specs.Prelude.{not}
use Rattle.std.proofs.Common.{ap}
use Rattle.chip.specs.Rights.{not_in, is_in}
use Rattle.skarvoya.specs.Called.{refuses, calls}
use Rattle.skarvoya.proofs.events.skarvoya_frame.Goals as goal

pub returns-then-not-in_order : goal.returns-then-not-in_order
returns-then-not-in_order c = refuses _ (not_in c.in_order.ensures (ap not c.if-not-in_order.true)) c.told.ensures

pub arrived_whole-requires : goal.arrived_whole-requires
arrived_whole-requires c = is_in c.in_order.ensures (ap not c.if-not-in_order.false)

pub returns : goal.returns
returns c = calls _ (is_in c.in_order.ensures (ap not c.if-not-in_order.false)) c.arrived_whole.ensures c.told-2.ensures
