-- By the memory's length, then as the layout says.
use Rattle.std.specs.Prelude.{ℕ, ◌*◌}
use Rattle.std.proofs.Common.{ap, ap₂, sym, ◌∙◌, true≢false, arith}
use Rattle.state.specs.Entry.{size_in}
use Rattle.chip.proofs.order.in_order.Goals as goal

pub returns-then-memory-PACKET_BYTES : goal.returns-then-memory-PACKET_BYTES
returns-then-memory-PACKET_BYTES g c = record {
  sound = λ e. absurd (true≢false (sym e));
  complete = λ o. absurd (c.if-memory-PACKET_BYTES.true (o.full ∙ sym (ap₂ ◌*◌ c.PACKET_BYTES.ensures c.size_in.ensures ∙ g.met.L.Ordered.long (size_in c.args.words.now))));
}

pub returns : goal.returns
returns g c = record {
  sound = λ e. record { holds = c.well_formed-2.ensures.sound e; full = c.if-memory-PACKET_BYTES.false ∙ ap₂ ◌*◌ c.PACKET_BYTES.ensures c.size_in.ensures ∙ g.met.L.Ordered.long (size_in c.args.words.now) };
  complete = λ o. c.well_formed-2.ensures.complete o.holds;
}
