-- By the direction.
use borrow.Author.Rules.{rules}
use mathlib.Core.Path.{ap}
use mathlib.Core.Bool.{not}
use Rattle.rules.specs.Data.{against}
use Rattle.data.proofs.checks.is_against.Statement.{statement}
use Rattle.data.proofs.checks.is_against.Tie as tie

returns : tie.Need-returns-then-reading
unfolding against
returns c = rw c.if-reading.true (ap not c.is_set.ensures)

returns-2 : tie.Need-returns
unfolding against
returns-2 c = rw c.if-reading.false c.is_set-2.ensures

pub is_against_spec : {M : Type 1} → statement M
is_against_spec = tie.close (tie.spec (λ c κs. search rules) returns (λ c κs. search rules) returns-2)
