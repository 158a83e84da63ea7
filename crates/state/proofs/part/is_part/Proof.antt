-- The two keys are the two parts.
use borrow.Author.Rules.{rules}
use Rattle.sets.specs.Good.{never}
use Rattle.state.proofs.part.is_part.Statement.{statement}
use Rattle.state.proofs.part.is_part.Tie as tie

returns-2 : tie.Need-returns-in_default
returns-2 c = never c.in_default.in_default-own.rest.1

pub is_part_spec : {M : Type 1} → statement M
is_part_spec = tie.close (tie.spec (λ c. search rules) returns-2)
