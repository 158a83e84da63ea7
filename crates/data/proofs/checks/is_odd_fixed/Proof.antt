-- Both tests are the rules'.
use borrow.Author.Rules.{rules}
use mathlib.Core.Path.{ap₂, ◌∙◌}
use mathlib.Core.Bool.{Bool, not, ◌&&◌}
use Rattle.rules.specs.Data.{odd_fixed}
use Rattle.data.proofs.checks.is_odd_fixed.Statement.{statement}
use Rattle.data.proofs.checks.is_odd_fixed.Tie as tie

returns : tie.Need-returns
unfolding odd_fixed
returns c = c.both.ensures ∙ ap₂ (λ (a b : Bool). a && not b) c.is_set.ensures c.is_set-2.ensures

pub is_odd_fixed_spec : {M : Type 1} → statement M
is_odd_fixed_spec = tie.close (tie.spec (λ c κs. search rules) (λ c κs. search rules) (λ c κs. search rules) returns)
