-- By TXENA.
use mathlib.Core.Path.{sym, ◌∙◌}
use borrow.Author.Rules.{rules}
use Rattle.registers.proofs.words.ephsr_after.Statement.{statement}
use Rattle.registers.proofs.words.ephsr_after.Tie as tie

returns : tie.Need-returns-then-is_set
returns c = rw (sym c.is_set.ensures ∙ c.if-is_set.true) c.forgotten.ensures

returns-2 : tie.Need-returns
returns-2 c = rw (sym c.is_set.ensures ∙ c.if-is_set.false)

pub ephsr_after_spec : {M : Type 1} → statement M
ephsr_after_spec = tie.close (tie.spec (λ c κs. search rules) (λ c κs. search rules) returns returns-2)
