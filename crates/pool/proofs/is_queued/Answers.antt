use Rattle.std.proofs.Common.{ap, ap₂, ◌∙◌}
use Rattle.std.specs.Prelude.{◌||◌}
use Rattle.rules.specs.Bits.{bit}
use Rattle.sets.specs.Bits.{bit_or_lem}
use Rattle.pool.proofs.is_queued.Goals as goal

-- a bit of both numbers joined
pub returns : goal.returns
returns c =
    let k = c.args.packet.0 in
    c.has.ensures ∙ bit_or_lem k _ _ ∙ ap₂ ◌||◌ (ap (bit k) c.bits-rx.ensures) (ap (bit k) c.bits-tx.ensures)
