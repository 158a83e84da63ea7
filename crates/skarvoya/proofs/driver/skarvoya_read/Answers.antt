-- By what the check says, then as the read says; its width is the one that was asked for.
use Rattle.std.specs.Prelude.{not}
use Rattle.std.proofs.Common.{ap}
use Rattle.rules.specs.Registers as registers
use Rattle.chip.specs.Rights.{not_in, is_in}
use Rattle.skarvoya.specs.Called.{refuses, calls_wide}
use Rattle.skarvoya.proofs.driver.skarvoya_read.Goals as goal

pub returns-then-not-in_order : goal.returns-then-not-in_order
returns-then-not-in_order c = refuses _ (not_in c.in_order.ensures (ap not c.if-not-in_order.true)) c.told.ensures

pub read_whole-requires : goal.read_whole-requires
read_whole-requires c = is_in c.in_order.ensures (ap not c.if-not-in_order.false)

pub returns : goal.returns
returns c = calls_wide (λ w. registers.read w c.args.offset) (is_in c.in_order.ensures (ap not c.if-not-in_order.false)) c.width_of.ensures c.read_whole.ensures c.told-2.ensures
