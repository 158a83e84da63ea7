-- Six bits, one after the other.
use mathlib.Core.Path.{ap, ◌∙◌}
use Rattle.rules.specs.Bits.{clear_bit}
use Rattle.rules.specs.Registers.{forgotten}
use borrow.Author.Rules.{rules}
use Rattle.registers.proofs.words.forgotten.Statement.{statement}
use Rattle.registers.proofs.words.forgotten.Tie as tie

returns : tie.Need-returns
unfolding forgotten
returns c =
    let low = c.with_clear-a.ensures ∙ ap (clear_bit 4) c.with_clear.ensures in
    let middle = c.with_clear-b.ensures ∙ ap (clear_bit 9) (c.with_clear-2.ensures ∙ ap (clear_bit 5) low) in
    c.with_clear-4.ensures ∙ ap (clear_bit 15) (c.with_clear-3.ensures ∙ ap (clear_bit 10) middle)

pub forgotten_spec : {M : Type 1} → statement M
forgotten_spec =
    tie.close
    (tie.spec
    (λ c κs. search rules)
    (λ c κs. search rules)
    (λ c κs. search rules)
    (λ c κs. search rules)
    (λ c κs. search rules)
    (λ c κs. search rules)
    returns)
