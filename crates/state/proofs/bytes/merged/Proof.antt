-- By the part.
use Rattle.rules.specs.Registers.{lanes_at}
use Rattle.state.proofs.Parts.{high_part, low_part, joined_high, joined_low, joined_both}
use borrow.Author.Rules.{rules}
use Rattle.state.proofs.bytes.merged.Statement.{statement}
use Rattle.state.proofs.bytes.merged.Tie as tie

returns : tie.Need-returns-then-offset-eq1
returns c = rw (c.in-Byte.is, high_part _ c.if-offset-eq1.true) (joined_high _ _)

returns-2 : tie.Need-returns-else-offset-eq1
returns-2 c = rw (c.in-Byte.is, low_part _ c.if-offset-eq1.false) (joined_low _ _ (search rules))

returns-3 : tie.Need-returns-in-Word
unfolding lanes_at
returns-3 c = rw c.in-Word.is (joined_both _ _ (search rules))

pub merged_spec : {M : Type 1} → statement M
merged_spec =
    tie.close
    (tie.spec
    (λ c. search rules)
    (λ c. search rules)
    (λ c. search rules)
    returns
    (λ c. search rules)
    (λ c. search rules)
    (λ c. search rules)
    returns-2
    returns-3)
