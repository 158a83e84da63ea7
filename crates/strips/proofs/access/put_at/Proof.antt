-- By the width.
use borrow.Author.Rules.{rules}
use Rattle.strips.proofs.access.put_at.Statement.{statement}
use Rattle.strips.proofs.access.put_at.Tie as tie

pub put_at_spec : {M : Type 1} → statement M
put_at_spec =
    tie.close
    (tie.spec
    (λ c κs. rw c.if-wide.true at c.requires)
    (λ c. search rules)
    (λ c. rw c.if-wide.true c.write_word.ensures)
    (λ c κs. rw c.if-wide.false at c.requires)
    (λ c. search rules)
    (λ c. rw c.if-wide.false c.write_byte.ensures))
