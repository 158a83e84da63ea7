-- One test after another, each the rules'.
use borrow.Author.Rules.{rules}
use mathlib.Core.Path.{◌≡◌, sym, ◌∙◌}
use mathlib.Core.Bool.{true, false}
use Rattle.rules.specs.Data.{address, against, odd_fixed}
use Rattle.strips.proofs.access.is_refused.Statement.{statement}
use Rattle.strips.proofs.access.is_refused.Tie as tie

returns : tie.Need-returns-then-is_against
returns c = let s = c in let e : against s.args.reading s.args.pointer ≡ true = sym c.is_against.ensures ∙ c.if-is_against.true in rw e

-- it is not against READ
along : (e : tie.Else-is_against) → let s = e in against s.args.reading s.args.pointer ≡ false
along e = sym e.is_against.ensures ∙ e.if-is_against.false

returns-2 : tie.Need-returns-then-is_odd_fixed
returns-2 c =
    let e = c.before.before in
    let s = e in
    let o : odd_fixed s.args.pointer ≡ true = sym c.is_odd_fixed.ensures ∙ c.if-is_odd_fixed.true in
    rw (along e, o)

returns-3 : tie.Need-returns
unfolding address
returns-3 c =
    let e = c.before.before in
    let s = e in
    let o : odd_fixed s.args.pointer ≡ false = sym c.is_odd_fixed.ensures ∙ c.if-is_odd_fixed.false in
    rw (along e, o)

pub is_refused_spec : {M : Type 1} → statement M
is_refused_spec =
    tie.close (tie.spec (λ c κs. search rules) returns (λ c κs. search rules) returns-2 (λ c. search rules) (λ c. search rules) returns-3)
