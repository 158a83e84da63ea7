-- The high byte is read-only; else it is the command in the low byte.
use Rattle.std.specs.Prelude.{refl, ℕ}
use Rattle.std.proofs.Common.{ap, sym, ◌∙◌}
use Rattle.rules.specs.Mmu.{command}
use Rattle.state.specs.View.{view_of}
use Rattle.accesses.specs.Reach.{makes_as, orders, orders_none}
use Rattle.accesses.proofs.writes.write_command.Goals as goal

pub returns-then-is_high : goal.returns-then-is_high
returns-then-is_high g c = λ mem.
    makes_as (orders_none _ c.args.value _ (sym c.is_high.ensures ∙ c.if-is_high.true)) (record { chip = refl; reply = refl; sound = c.requires.0.sound })

pub returns : goal.returns
returns g c = λ mem.
    makes_as
    (orders _ c.args.value _ (sym c.is_high.ensures ∙ c.if-is_high.false) ∙ ap (λ (v : ℕ). command v (view_of g.L.Layout.layout c.args.words.now c.args.sets.now c.args.queues.now mem)) (sym c.low_byte.ensures))
    (c.commanded.ensures mem)
