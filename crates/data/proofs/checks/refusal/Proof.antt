-- The tests one by one, each as the rules have it.
use borrow.Author.Rules.{rules}
use mathlib.Core.Path.{sym, ◌∙◌}
use Rattle.data.specs.Access.{refusal_if}
use Rattle.data.proofs.checks.refusal.Statement.{statement}
use Rattle.data.proofs.checks.refusal.Tie as tie

returns : tie.Need-returns-then-is_set
unfolding refusal_if
returns c = rw (c.if-not-has_pages.true, sym c.is_set.ensures ∙ c.if-is_set.true)

returns-2 : tie.Need-returns-then-not-has_pages
unfolding refusal_if
returns-2 c = rw (c.if-not-has_pages.true, sym c.is_set.ensures ∙ c.if-is_set.false)

-- the packet has pages
returns-3 : tie.Need-returns-then-is_against
unfolding refusal_if
returns-3 c = rw (c.if-not-has_pages.false, sym c.is_against.ensures ∙ c.if-is_against.true)

returns-4 : tie.Need-returns-then-is_odd_fixed
unfolding refusal_if
returns-4 c =
    let f = c in
    rw (f.if-not-has_pages.false, sym f.is_against.ensures ∙ f.if-is_against.false, sym c.is_odd_fixed.ensures ∙ c.if-is_odd_fixed.true)

returns-5 : tie.Need-returns
unfolding refusal_if
returns-5 c =
    let f = c in
    rw (f.if-not-has_pages.false, sym f.is_against.ensures ∙ f.if-is_against.false, sym c.is_odd_fixed.ensures ∙ c.if-is_odd_fixed.false)

pub refusal_spec : {M : Type 1} → statement M
refusal_spec = tie.close (tie.spec (λ c κs. search rules) returns returns-2 (λ c κs. search rules) returns-3 (λ c κs. search rules) returns-4 returns-5)
