use borrow.Author.Rules.{rules}
use Rattle.lists.specs.Written.{writes_on}
use Rattle.lines.proofs.line.two_at.Statement.{statement}
use Rattle.lines.proofs.line.two_at.Tie as tie

returns : tie.Need-returns
returns c = writes_on (search rules) c.byte_at-mid.ensures c.byte_at.ensures

pub two_at_spec : {M : Type 1} → statement M
two_at_spec =
    tie.close
    (tie.spec
    (λ c. search rules)
    (λ c. search rules)
    (λ c κs. search rules)
    (λ c. search rules)
    (λ c. search rules)
    (λ c κs. search rules)
    (λ c. search rules)
    returns)
