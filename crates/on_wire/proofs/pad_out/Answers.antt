-- The zeros stand behind the data, or the data is long enough.
use Rattle.std.proofs.Common.{◌∙◌, sym, rules, arith}
use Rattle.on_wire.proofs.Padding.{pads_nothing, pads}
use Rattle.on_wire.proofs.pad_out.Goals as goal

pub returns-then-len-least-clause-puts : goal.returns-then-len-least-clause-puts
returns-then-len-least-clause-puts c =
    let least = c.least_length-least.ensures in
    pads c.args.fcs c.args.tcr c.args.len _ c.args.out.now (omega (arith, c.requires)) least.0 (sym c.is_set.ensures ∙ c.if-is_set.true)
    (omega (arith, c.if-len-least.true)) (omega (arith, c.requires, least.1)) (c.fill.ensures.after (λ y e. search rules))

pub returns-clause-puts : goal.returns-clause-puts
returns-clause-puts c = pads_nothing c.args.fcs c.args.tcr c.args.len _ c.args.out.now (omega (arith, c.requires)) c.least_length-least.ensures.0 c.is_set.ensures c.else-is_set.either
