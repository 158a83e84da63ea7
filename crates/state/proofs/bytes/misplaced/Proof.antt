-- The offset first, then the width.
use mathlib.Core.Path.{sym}
use borrow.Author.Tests.{le-ltb}
use Rattle.bits.specs.Laws.{bit_zero}
use Rattle.rules.specs.Registers.{misplaced}
use Rattle.state.proofs.Parts.{beyond}
use borrow.Author.Rules.{rules}
use Rattle.state.proofs.bytes.misplaced.Statement.{statement}
use Rattle.state.proofs.bytes.misplaced.Tie as tie

returns : tie.Need-returns-then-offset-gt15
returns c = beyond c.args.width _ c.if-offset-gt15.true

returns-2 : tie.Need-returns-in-Byte
unfolding misplaced
returns-2 c = rw (c.in-Byte.is, le-ltb _ _ c.if-offset-gt15.false)

returns-3 : tie.Need-returns-in-Word
unfolding misplaced
returns-3 c = rw (c.in-Word.is, le-ltb _ _ c.if-offset-gt15.false) (sym (bit_zero _))

pub misplaced_spec : {M : Type 1} → statement M
misplaced_spec = tie.close (tie.spec returns (λ c. search rules) (λ c. search rules) returns-2 returns-3)
