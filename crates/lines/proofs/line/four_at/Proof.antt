use borrow.Author.Rules.{rules}
use Rattle.lists.specs.Written.{writes_on}
use Rattle.lines.proofs.line.four_at.Statement.{statement}
use Rattle.lines.proofs.line.four_at.Tie as tie

returns : tie.Need-returns
returns c = writes_on (search rules) c.two_at-mid.ensures c.two_at.ensures

pub four_at_spec : {M : Type 1} → statement M
four_at_spec = tie.close (tie.spec (λ c κs. search rules) (λ c κs. search rules) (λ c. search rules) returns)
