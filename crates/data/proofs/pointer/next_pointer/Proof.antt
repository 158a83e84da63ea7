-- By AUTO INCR.
use borrow.Author.Rules.{rules}
use mathlib.Core.Path.{sym, ◌∙◌}
use Rattle.rules.specs.Data.{advance, next}
use Rattle.data.proofs.pointer.next_pointer.Statement.{statement}
use Rattle.data.proofs.pointer.next_pointer.Tie as tie

returns : tie.Need-returns-then-is_set
unfolding next advance
returns c = rw (sym c.is_set.ensures ∙ c.if-is_set.true)

returns-2 : tie.Need-returns
unfolding next
returns-2 c = rw (sym c.is_set.ensures ∙ c.if-is_set.false)

pub next_pointer_spec : {M : Type 1} → statement M
next_pointer_spec = tie.close (tie.spec (λ c κs. search rules) (λ c. search rules) (λ c. search rules) (λ c. search rules) returns returns-2)
