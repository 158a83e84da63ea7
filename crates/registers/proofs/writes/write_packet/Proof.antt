-- The law of the register.
use mathlib.Core.Path.{sym, ◌∙◌}
use Rattle.state.specs.Writes.{packet_high, writes_packet}
use borrow.Author.Rules.{rules}
use Rattle.registers.proofs.writes.write_packet.Statement.{statement}
use Rattle.registers.proofs.writes.write_packet.Tie as tie

returns : tie.Need-returns-then-is_high
returns c = packet_high _ _ _ c.requires.0 (sym c.is_high.ensures ∙ c.if-is_high.true)

returns-2 : tie.Need-returns
returns-2 c =
    let d = c in
    writes_packet _ _ (sym d.is_high.ensures ∙ d.if-is_high.false) _ _ d.requires.0 c.low_set.ensures

pub write_packet_spec : {M : Type 1} → statement M
write_packet_spec =
    tie.close
    (tie.spec
    (λ c κs. search rules)
    returns
    (λ c. search rules)
    (λ c κs. search rules)
    (λ c. search rules)
    (λ c. search rules)
    returns-2)
