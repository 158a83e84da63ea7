use borrow.Author.Rules.{rules}
use mathlib.Core.Path.{sym}
use Rattle.lines.proofs.Bytes.{figure, letter}
use Rattle.lines.proofs.watched.hex_digit.Statement.{statement}
use Rattle.lines.proofs.watched.hex_digit.Tie as tie

returns : tie.Need-returns-then-d-lt10
returns c = sym (figure _ c.if-d-lt10.true)

returns-2 : tie.Need-returns
returns-2 c = sym (letter _ c.if-d-lt10.false)

pub hex_digit_spec : {M : Type 1} → statement M
hex_digit_spec = tie.close (tie.spec (λ c. search rules) returns (λ c. search rules) returns-2)
