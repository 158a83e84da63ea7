use borrow.Author.Rules.{rules}
use native.Mathlib.Omega.{arith}
use Rattle.lists.specs.Written.{writes_on, writes_as}
use Rattle.lines.specs.Word.{bytes4}
use Rattle.lines.proofs.Packed.{halves}
use Rattle.lines.proofs.line.eight_at.Statement.{statement}
use Rattle.lines.proofs.line.eight_at.Tie as tie

word-at-requires-2 : tie.Need-word_at-requires
unfolding bytes4
word-at-requires-2 c κs = omega (arith, c.word_at-mid.ensures.place)

returns : tie.Need-returns
returns c =
    writes_as (halves c.args.x)
    (writes_on (search rules) c.word_at-mid.ensures c.word_at.ensures)

pub eight_at_spec : {M : Type 1} → statement M
eight_at_spec =
    tie.close
    (tie.spec
    (λ c. search rules)
    (λ c κs. search rules)
    (λ c. search rules)
    word-at-requires-2
    (λ c. search rules)
    returns)
