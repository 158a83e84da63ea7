-- By the memory, the wire bytes and the count, then as `ready` says.
use mathlib.Core.Path.{sym}
use mathlib.Core.Bool.{true≢false}
use native.Mathlib.Omega.{arith}
use borrow.Author.Rules.{rules}
use Rattle.skarvoya.proofs.record.bench_in_order.Statement.{statement}
use Rattle.skarvoya.proofs.record.bench_in_order.Tie as tie

returns : tie.Need-returns-then-memory-ne-MEMORY_BYTES
returns c = record { sound = λ e. absurd (true≢false (sym e)); complete = λ o. absurd (omega (arith, o.held.full, c.if-memory-ne-MEMORY_BYTES.true)) }

returns-2 : tie.Need-returns-then-wire-ne-WIRE_BYTES
returns-2 c = record { sound = λ e. absurd (true≢false (sym e)); complete = λ o. absurd (omega (arith, o.held.room, c.if-wire-ne-WIRE_BYTES.true)) }

returns-3 : tie.Need-returns-then-gathered-gt-WIRE_BYTES
returns-3 c = record { sound = λ e. absurd (true≢false (sym e)); complete = λ o. absurd (omega (arith, o.held.few, c.if-gathered-gt-WIRE_BYTES.true)) }

returns-4 : tie.Need-returns-then-count-ge-LAST_COUNT
returns-4 c = record { sound = λ e. absurd (true≢false (sym e)); complete = λ o. absurd (omega (arith, o.next, c.if-count-ge-LAST_COUNT.true)) }

returns-5 : tie.Need-returns
returns-5 c = record {
  sound = λ e. record {
    held = record {
      chip = c.ready.ensures.sound e;
      full = omega (arith, c.if-memory-ne-MEMORY_BYTES.false);
      room = omega (arith, c.if-wire-ne-WIRE_BYTES.false);
      few = omega (arith, c.if-gathered-gt-WIRE_BYTES.false);
    };
    next = omega (arith, c.if-count-ge-LAST_COUNT.false);
  };
  complete = λ o. c.ready.ensures.complete o.held.chip;
}

pub bench_in_order_spec : {M : Type 1} → statement M
bench_in_order_spec =
    tie.close
    (tie.spec
    returns
    returns-2
    returns-3
    returns-4
    (λ c κs. search rules)
    returns-5)
