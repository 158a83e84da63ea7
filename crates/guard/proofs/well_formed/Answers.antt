-- The record is asked one thing after another, by a test that decides it, on the part that it names.
use Rattle.std.proofs.Common.{arith}
use Rattle.rules.specs.Bits.{word_of}
use Rattle.lists.specs.Facts.{agrees}
use Rattle.sets.specs.Good.{never}
use Rattle.guard.specs.Asked.{asked_decides}
use Rattle.guard.proofs.well_formed.Goals as goal

pub returns-then-request_good : goal.returns-then-request_good
unfolding word_of
returns-then-request_good c =
    asked_decides c.size_in-size.ensures c.requires.1 (λ i. omega (arith, c.type_inv.sets i))
    (agrees c.queues_good.ensures
    (λ g. record { part = grind arith; words = grind arith; rest = grind arith; pages = grind arith; free = grind arith; request = grind arith; queues = g }) (λ a. a.queues))

pub returns-else-request_good : goal.returns-else-request_good
unfolding word_of
returns-else-request_good c = rw c.if-request_good.false (asked_decides c.size_in-size.ensures c.requires.1 (λ i. omega (arith, c.type_inv.sets i)) (never (λ a. grind arith)))
