use borrow.Author.Rules.{rules}
use Rattle.lines.specs.Word.{bytes4}
use Rattle.lists.specs.Written.{writes_on}
use Rattle.lines.proofs.line.word_at.Statement.{statement}
use Rattle.lines.proofs.line.word_at.Tie as tie

returns : tie.Need-returns
unfolding bytes4
returns c =
    writes_on (search rules)
    (writes_on (search rules) (writes_on (search rules) c.byte_at-b.ensures c.byte_at-c.ensures) c.byte_at-d.ensures)
    c.byte_at.ensures

pub word_at_spec : {M : Type 1} → statement M
word_at_spec =
    tie.close
    (tie.spec
    (λ c. search rules)
    (λ c κs. search rules)
    (λ c. search rules)
    (λ c κs. search rules)
    (λ c. search rules)
    (λ c κs. search rules)
    (λ c. search rules)
    (λ c κs. search rules)
    (λ c. search rules)
    returns)
