-- By RX_ABORT.
use mathlib.Core.Path.{ap, sym, ◌∙◌}
use Rattle.rules.specs.Bits.{clear_bit}
use Rattle.rules.specs.Registers.{new_rcr}
use borrow.Author.Rules.{rules}
use Rattle.reset.proofs.words.new_rcr.Statement.{statement}
use Rattle.reset.proofs.words.new_rcr.Tie as tie

returns : tie.Need-returns-then-is_set
unfolding new_rcr
returns c = rw (sym c.is_set.ensures ∙ c.if-is_set.true) c.merged-x.ensures.word

returns-2 : tie.Need-returns
unfolding new_rcr
returns-2 c = rw (sym c.is_set.ensures ∙ c.if-is_set.false) (c.with_clear.ensures ∙ ap (clear_bit 0) c.merged-x.ensures.word)

pub new_rcr_spec : {M : Type 1} → statement M
new_rcr_spec =
    tie.close (tie.spec (λ c κs. search rules) (λ c κs. search rules) returns (λ c κs. search rules) returns-2)
