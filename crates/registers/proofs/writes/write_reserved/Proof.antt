-- The law of the register: its high byte is 33h.
use mathlib.Core.Path.{sym, ◌∙◌}
use native.Mathlib.Omega.{arith}
use Rattle.state.specs.Writes.{reserved_high_lem, writes_reserved}
use borrow.Author.Rules.{rules}
use Rattle.registers.proofs.writes.write_reserved.Statement.{statement}
use Rattle.registers.proofs.writes.write_reserved.Tie as tie

returns : tie.Need-returns-then-is_high
returns c = reserved_high_lem _ _ _ c.requires.0 (sym c.is_high.ensures ∙ c.if-is_high.true)

returns-2 : tie.Need-returns
returns-2 c =
    let k = c.requires.0 in
    writes_reserved _ _ (sym c.is_high.ensures ∙ c.if-is_high.false) _ _ k (omega (arith, k.fixed.reserved_high))

pub write_reserved_spec : {M : Type 1} → statement M
write_reserved_spec =
    tie.close (tie.spec (λ c κs. search rules) returns (λ c. search rules) (λ c. search rules) (λ c. search rules) returns-2)
