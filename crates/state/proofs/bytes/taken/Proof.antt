-- By the part.
use mathlib.Core.Path.{refl}
use native.Mathlib.Omega.{arith}
use Rattle.rules.specs.Bits.{low_byte, high_byte}
use Rattle.rules.specs.Registers.{taken, lanes_at}
use Rattle.state.proofs.Parts.{high_part, low_part}
use borrow.Author.Rules.{rules}
use Rattle.state.proofs.bytes.taken.Statement.{statement}
use Rattle.state.proofs.bytes.taken.Tie as tie

returns : tie.Need-returns-then-offset-eq1
unfolding taken high_byte
returns c = rw (c.in-Byte.is, high_part _ c.if-offset-eq1.true) (omega arith)

returns-2 : tie.Need-returns-else-offset-eq1
unfolding taken low_byte
returns-2 c = rw (c.in-Byte.is, low_part _ c.if-offset-eq1.false) refl

returns-3 : tie.Need-returns-in-Word
unfolding taken lanes_at
returns-3 c = rw c.in-Word.is

pub taken_spec : {M : Type 1} → statement M
taken_spec = tie.close (tie.spec (λ c. search rules) returns (λ c. search rules) returns-2 returns-3)
