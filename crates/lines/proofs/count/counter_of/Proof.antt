-- The loop packs the digits; what stands before them gets less.
use borrow.Author.Rules.{rules}
use native.Mathlib.Omega.{arith}
use Rattle.lines.proofs.Packed.{Packing, packing_starts, packing_on, packing_short, packing_text, packing_unit, packing_ends, digits_counted, none_counted}
use Rattle.lines.proofs.count.counter_of.Statement.{statement}
use Rattle.lines.proofs.count.counter_of.Tie as tie

abbrev invariant-loop : tie.invariant-loop-x
invariant-loop number last text₀ unit₀ length₀ x₀ text unit length x = Packing number x text unit length

abbrev decreases-loop : tie.decreases-loop-x
decreases-loop number last text₀ unit₀ length₀ x₀ text unit length x = x

returns : tie.Need-returns-then-number-ge100000000 invariant-loop decreases-loop
returns c = none_counted c.args.number c.if-number-ge100000000.true

loop-holds : tie.Need-loop-x-init invariant-loop decreases-loop
loop-holds c = packing_starts c.args.number

-- The digits so far leave room for one more.
mul-text : tie.Need-overflow_mul-text invariant-loop decreases-loop
mul-text c = record { fits = omega (arith, packing_text c.loop-x.invariant c.loop-x-test.true c.if-number-ge100000000.false) }

add-text-2 : tie.Need-overflow_add-text-in-loop-x invariant-loop decreases-loop
add-text-2 c = record { fits = omega (arith, packing_text c.loop-x.invariant c.loop-x-test.true c.if-number-ge100000000.false) }

add-text-3 : tie.Need-overflow_add-text-in-loop-x-2 invariant-loop decreases-loop
add-text-3 c = record { fits = omega (arith, packing_text c.loop-x.invariant c.loop-x-test.true c.if-number-ge100000000.false) }

mul-unit : tie.Need-overflow_mul-unit invariant-loop decreases-loop
mul-unit c = record { fits = omega (arith, packing_unit c.loop-x.invariant c.loop-x-test.true c.if-number-ge100000000.false) }

add-length : tie.Need-overflow_add-length invariant-loop decreases-loop
add-length c = record { fits = omega (arith, packing_short c.loop-x.invariant c.loop-x-test.true c.if-number-ge100000000.false) }

loop-again : tie.Need-loop-x-preserved invariant-loop decreases-loop
loop-again c = packing_on c.loop-x.invariant c.loop-x-test.true

returns-2 : tie.Need-returns invariant-loop decreases-loop
returns-2 c = digits_counted (packing_ends c.loop-x.invariant (omega (arith, c.loop-x-test.false)) c.if-number-ge100000000.false)

pub counter_of_spec : {M : Type 1} → statement M
counter_of_spec =
    tie.close
    (tie.spec
    invariant-loop
    decreases-loop
    returns
    (λ c. search rules)
    loop-holds
    mul-text
    add-text-2
    add-text-3
    mul-unit
    add-length
    (λ c. search rules)
    loop-again
    (λ c. search rules)
    returns-2)
