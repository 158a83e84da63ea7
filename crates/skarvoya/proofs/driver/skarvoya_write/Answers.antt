-- By what the check says, then as the write says; its width is the one that was asked for.
use Rattle.std.specs.Prelude.{not}
use Rattle.std.proofs.Common.{ap}
use Rattle.rules.specs.Registers as registers
use Rattle.chip.specs.Rights.{not_in, is_in}
use Rattle.skarvoya.specs.Called.{refuses, calls_wide}
use Rattle.skarvoya.proofs.driver.skarvoya_write.Goals as goal

pub returns-then-not-in_order : goal.returns-then-not-in_order
returns-then-not-in_order c = refuses _ (not_in c.in_order.ensures (ap not c.if-not-in_order.true)) c.told.ensures

pub write_whole-requires : goal.write_whole-requires
write_whole-requires c = is_in c.in_order.ensures (ap not c.if-not-in_order.false)

pub returns : goal.returns
returns c = calls_wide (λ w. registers.write w c.args.offset c.args.value) (is_in c.in_order.ensures (ap not c.if-not-in_order.false)) c.width_of.ensures c.write_whole.ensures c.told-2.ensures
