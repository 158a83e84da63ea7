-- Both heads.
use mathlib.Core.Path.{ap₂, ◌∙◌}
use Rattle.rules.specs.Bits.{word_of}
use borrow.Author.Rules.{rules}
use Rattle.registers.proofs.reads.heads.Statement.{statement}
use Rattle.registers.proofs.reads.heads.Tie as tie

returns : tie.Need-returns
returns c = c.word.ensures ∙ ap₂ word_of c.head_shown.ensures c.head_shown-2.ensures

pub heads_spec : {M : Type 1} → statement M
heads_spec = tie.close (tie.spec (λ c κs. search rules) (λ c κs. search rules) (λ c κs. search rules) returns)
