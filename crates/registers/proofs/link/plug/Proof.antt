-- By the law of each: outside its limits, the same state again, and another.
use native.Mathlib.Omega.{arith}
use lib.ListN.{length-set}
use Rattle.state.specs.Links.{plug_outside, plug_same, plug_other}
use borrow.Author.Rules.{rules}
use Rattle.registers.proofs.link.plug.Statement.{statement}
use Rattle.registers.proofs.link.plug.Tie as tie

returns : tie.Need-returns-then-up-gt1
returns c = let k = c.requires in (plug_outside _ _ k c.if-up-gt1.true, k.whole)

returns-2 : tie.Need-returns-then-words-up
returns-2 c = let s = c in (plug_same _ _ s.requires (omega (arith, c.if-up-gt1.false)) c.if-words-up.true, s.requires.whole)

returns-3 : tie.Need-returns
returns-3 c =
    let s = c in
    (plug_other _ _ s.requires _ (omega arith) (omega (arith, c.if-up-gt1.false)) c.if-words-up.false, simp length-set s.requires.whole)

pub plug_spec : {M : Type 1} → statement M
plug_spec = tie.close (tie.spec returns (λ c. search rules) returns-2 (λ c. search rules) (λ c. search rules) (λ c. search rules) returns-3)
