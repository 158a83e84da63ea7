-- The low byte of the register's word.
use Rattle.rules.specs.Bits.{low_byte}
use borrow.Author.Rules.{rules}
use Rattle.commands.proofs.register.named.Statement.{statement}
use Rattle.commands.proofs.register.named.Tie as tie

returns : tie.Need-returns
unfolding low_byte
returns c = c.low_byte.ensures

pub named_spec : {M : Type 1} → statement M
named_spec = tie.close (tie.spec (λ c. search rules) (λ c κs. search rules) returns)
