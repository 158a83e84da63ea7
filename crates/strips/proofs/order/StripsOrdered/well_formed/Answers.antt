use Rattle.std.proofs.Common.{arith}
use Rattle.lists.specs.Facts.{agrees}
use Rattle.sets.specs.Good.{never}
use Rattle.strips.specs.Asked.{asked_decides}
use Rattle.strips.proofs.order.StripsOrdered.well_formed.Goals as goal

pub returns-then-request_good : goal.returns-then-request_good
returns-then-request_good c =
    asked_decides c.size_in-size.ensures c.requires.1 (λ i. omega (arith, c.type_inv.counts i))
    (agrees c.queues_good.ensures
    (λ g. record {
      part = grind arith;
      words = grind arith;
      rest = grind arith;
      counts = grind arith;
      request = grind arith;
      queues = g;
    })
    (λ a. a.queues))

pub returns-else-request_good : goal.returns-else-request_good
returns-else-request_good c =
    rw c.if-request_good.false
    (asked_decides c.size_in-size.ensures c.requires.1 (λ i. omega (arith, c.type_inv.counts i)) (never (λ a. grind arith)))
