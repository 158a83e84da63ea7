use borrow.Author.Rules.{rules}
use Rattle.lists.specs.Written.{write_one}
use Rattle.lines.proofs.line.byte_at.Statement.{statement}
use Rattle.lines.proofs.line.byte_at.Tie as tie

returns : tie.Need-returns
returns c = write_one c.args.lines.now c.args.at c.args.x (search rules)

pub byte_at_spec : {M : Type 1} → statement M
byte_at_spec = tie.close (tie.spec (λ c. search rules) (λ c. search rules) (λ c. search rules) returns)
